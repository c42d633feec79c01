use Rattle.std.proofs.Common.{◌∙◌}
use Rattle.rasta_pcap.proofs.Sending.{Sent-failed, Sent-last, Sent-more, Sent-start}
use Rattle.rasta_verdict.proofs.Verdicts.{taken_text-parts}
use Rattle.rasta_verdict.proofs.taken_text.write_taken.Goals as goal

pub returns-in_err-write_all-clause-out : goal.returns-in_err-write_all-clause-out
returns-in_err-write_all-clause-out g c =
    Sent-failed c.from_residual.result _ _ _ c.from_residual.ensures.0 (Sent-start _ (g.W.Sink.contents c.args.writer.now))
    (taken_text-parts c.args.side c.args.taken.now _ (c.as_bytes.ensures ∙ c.put_count.ensures)) c.in_err-write_all.ensures.out

pub returns-clause-out : goal.returns-clause-out
returns-clause-out g c =
    let count = Sent-more _ _ _ (Sent-start _ (g.W.Sink.contents c.args.writer.now)) (taken_text-parts c.args.side c.args.taken.now _ (c.as_bytes.ensures ∙ c.put_count.ensures)) c.in_ok-write_all.ensures.out in
    Sent-last c.write_messages.result _ count c.write_messages.ensures.out
