use Rattle.std.proofs.Common.{◌∙◌}
use Rattle.rasta_pcap.proofs.Sending.{Sent-all, Sent-failed, Sent-more}
use Rattle.rasta_verdict.proofs.Verdicts.{taken_lines-end, taken_lines-next}
use Rattle.rasta_verdict.proofs.taken_text.write_messages.Goals as goal

pub returns-in_err-write_taken_message-clause-out :
    goal.returns-in_err-write_taken_message-clause-out
returns-in_err-write_taken_message-clause-out g c =
    Sent-failed c.from_residual.result _ _ _ c.from_residual.ensures.0 c.loop-message.invariant.sent
    (taken_lines-next c.args.taken.now c.loop-message.message-index _ c.loop-message-test.true) c.in_err-write_taken_message.ensures.out

pub loop-message-preserved : goal.loop-message-preserved
loop-message-preserved g c = record {
  sent = Sent-more _ _ _ c.loop-message.invariant.sent
      (taken_lines-next c.args.taken.now c.loop-message.message-index _ c.loop-message-test.true) c.in_ok-write_taken_message.ensures.out;
  steady = c.in_ok-write_taken_message.ensures.written ∙ c.loop-message.invariant.steady;
}

pub returns-clause-out : goal.returns-clause-out
returns-clause-out g c = Sent-all c.loop-message.invariant.sent
    (taken_lines-end c.args.taken.now c.loop-message.message-index c.loop-message-test.false)
