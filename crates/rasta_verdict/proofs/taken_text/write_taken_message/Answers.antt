use Rattle.std.proofs.Common.{◌∙◌, refl}
use Rattle.rasta_check.specs.Verdict.Listed.{listed_of}
use Rattle.rasta_pcap.proofs.Sending.{Sent-failed, Sent-last, Sent-more, Sent-start}
use Rattle.rasta_verdict.proofs.Verdicts.{taken_line-parts}
use Rattle.rasta_verdict.proofs.taken_text.write_taken_message.Goals as goal

pub returns-in_err-write_all-clause-out : goal.returns-in_err-write_all-clause-out
returns-in_err-write_all-clause-out g c =
    Sent-failed c.from_residual.result _ _ _ c.from_residual.ensures.0 (Sent-start _ (g.W.Sink.contents c.args.writer.now))
    (taken_line-parts (listed_of c.args.taken.now) _ (c.as_bytes.ensures ∙ c.put_places.ensures)) c.in_err-write_all.ensures.out

pub returns-in_err-write_message-clause-out : goal.returns-in_err-write_message-clause-out
returns-in_err-write_message-clause-out g c =
    let front = Sent-more _ _ _ (Sent-start _ (g.W.Sink.contents c.args.writer.now)) (taken_line-parts (listed_of c.args.taken.now) _ (c.as_bytes.ensures ∙ c.put_places.ensures)) c.in_ok-write_all.ensures.out in
    Sent-failed c.from_residual-in_err-write_message.result _ _ _ c.from_residual-in_err-write_message.ensures.0 front refl c.in_err-write_message.ensures.out

pub returns-clause-out : goal.returns-clause-out
returns-clause-out g c =
    let front = Sent-more _ _ _ (Sent-start _ (g.W.Sink.contents c.args.writer.now)) (taken_line-parts (listed_of c.args.taken.now) _ (c.as_bytes.ensures ∙ c.put_places.ensures)) c.in_ok-write_all.ensures.out in
    let bytes = Sent-more _ _ _ front refl c.in_ok-write_message.ensures.out in
    Sent-last c.write_all-2.result _ bytes c.write_all-2.ensures.out
