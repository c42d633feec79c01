use Rattle.std.proofs.Common.{◌∙◌}
use Rattle.rasta_pcap.proofs.Sending.{Sent-all, Sent-failed, Sent-more}
use Rattle.rasta_verdict.proofs.RunTexts.{among-next, takes_text-end, takes_text-next}
use Rattle.rasta_verdict.proofs.run_text.write_takes.Goals as goal

pub returns-in_err-write_all-clause-out : goal.returns-in_err-write_all-clause-out
returns-in_err-write_all-clause-out g c =
    Sent-failed c.from_residual.result _ _ _ c.from_residual.ensures.0 c.loop-number.invariant.sent
    (takes_text-next c.args.level c.in-Some.number c.args.side c.loop-number.rest.now c.in-Some.after.now _ c.in-Some.ensures.found (c.as_bytes.ensures ∙ c.put_take.ensures))
    c.in_err-write_all.ensures.out

pub loop-number-preserved : goal.loop-number-preserved
loop-number-preserved g c = record {
  sent = Sent-more _ _ _ c.loop-number.invariant.sent
      (takes_text-next c.args.level c.in-Some.number c.args.side c.loop-number.rest.now c.in-Some.after.now _ c.in-Some.ensures.found (c.as_bytes.ensures ∙ c.put_take.ensures))
      c.in_ok-write_all.ensures.out;
  among = among-next c.args.level c.in-Some.number c.args.script.now c.loop-number.rest.now c.in-Some.after.now c.loop-number.invariant.among c.in-Some.ensures.found;
  steady = c.in_ok-write_all.ensures.written ∙ c.loop-number.invariant.steady;
}

pub returns-clause-out : goal.returns-clause-out
returns-clause-out g c = Sent-all c.loop-number.invariant.sent
    (takes_text-end c.args.level c.args.side c.loop-number.rest.now c.in_default.ensures.none)
