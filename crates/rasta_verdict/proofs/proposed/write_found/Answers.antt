use Rattle.std.proofs.Common.{◌∙◌, [], List, ℕ, append-nil, subst, sym}
use Rattle.std.specs.Io.KnownBytes.{Appends}
use Rattle.rasta_pcap.proofs.Sending.{Sent-failed, Sent-start}
use Rattle.rasta_verdict.specs.Proposed.{built_text}
use Rattle.rasta_verdict.proofs.Proposals.{refusal_has_status, refusal_is_told}
use Rattle.rasta_verdict.proofs.proposed.write_found.Goals as goal

pub returns-in_err-write_all-in-Unscripted-clause-out : goal.returns-in_err-write_all-in-Unscripted-clause-out
returns-in_err-write_all-in-Unscripted-clause-out g c =
    let text = (c.as_bytes.ensures ∙ c.refusal_line.ensures) ∙ refusal_is_told built_text c.args.verdict.now c.in-Unscripted.fault c.in-Unscripted.is in
    Sent-failed c.from_residual-in_err-write_all-in-Unscripted.result _ [] _ c.from_residual-in_err-write_all-in-Unscripted.ensures.0
    (Sent-start _ (g.W.Sink.contents c.args.writer.now)) (sym text ∙ sym (append-nil _)) c.in_err-write_all-in-Unscripted.ensures.out

pub returns-in_ok-write_all-in-Unscripted-clause-out : goal.returns-in_ok-write_all-in-Unscripted-clause-out
returns-in_ok-write_all-in-Unscripted-clause-out g c =
    let text = (c.as_bytes.ensures ∙ c.refusal_line.ensures) ∙ refusal_is_told built_text c.args.verdict.now c.in-Unscripted.fault c.in-Unscripted.is in
    subst (λ (t : List ℕ). Appends (g.W.Sink.contents c.args.writer.now) (g.W.Sink.contents c.write_all.new.writer) t) text c.in_ok-write_all-in-Unscripted.ensures.out

pub returns-in_ok-write_all-in-Unscripted-clause-answered : goal.returns-in_ok-write_all-in-Unscripted-clause-answered
returns-in_ok-write_all-in-Unscripted-clause-answered g c = refusal_has_status c.args.verdict.now c.in-Unscripted.fault c.in-Unscripted.is
