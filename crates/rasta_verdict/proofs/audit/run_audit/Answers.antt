use Rattle.std.proofs.Common.{List, ℕ, subst, sym}
use Rattle.rasta_check.specs.Internals.Storing.{IsRefusedSo, IsStored}
use Rattle.rasta_line.specs.Texts.{refused_line}
use Rattle.rasta_verdict.specs.Claims.{ClaimsHeadline}
use Rattle.rasta_verdict.specs.Decided.{Decides}
use Rattle.rasta_verdict.specs.Judged.{status_of_verdict, text_of_verdict}
use Rattle.rasta_verdict.specs.Proposed.{IsAudit, capture_refused}
use Rattle.rasta_verdict.specs.Verdict.{explained_text}
use Rattle.rasta_pcap.proofs.Sending.{where_failed}
use Rattle.rasta_verdict.proofs.Proposals.{audit_text, nothing_of_outcome, outcome_begun, refused_decides}
use Rattle.rasta_verdict.proofs.Refusing.{refusal_written, where_broken, where_refused}
use Rattle.rasta_verdict.proofs.Verdicts.{verdict_written}
use Rattle.rasta_verdict.proofs.audit.run_audit.Goals as goal

-- ---- the capture is refused, or can't be read

pub returns-in-Err-clause-text : goal.returns-in-Err-clause-text
returns-in-Err-clause-text g c =
    let p = c.args.params.now in
    let f = c.in-Err.fault in
    refusal_written (IsAudit p) p f c.write_refusal.result _ _ _ _ _ _ (sym c.if-is_refusal.ensures) c.in-Err.ensures.err
    (λ file refused. capture_refused f refused.value) c.write_refusal.ensures.out c.write_refusal.ensures.answered

pub returns-in-Err-clause-begun : goal.returns-in-Err-clause-begun
returns-in-Err-clause-begun g c =
    let p = c.args.params.now in
    let f = c.in-Err.fault in
    outcome_begun (IsAudit p) (IsRefusedSo p f) c.write_refusal.result (refused_line f) 1 _ _ _ _
    (where_refused p f _ _ _ _ (sym c.if-is_refusal.ensures) c.in-Err.ensures.err)
    (λ file refused. capture_refused f refused.value)
    c.write_refusal.ensures.out

pub returns-in-Err-clause-headline : goal.returns-in-Err-clause-headline
returns-in-Err-clause-headline g c =
    let p = c.args.params.now in
    let f = c.in-Err.fault in
    refusal_written (ClaimsHeadline p) p f c.write_refusal.result _ _ _ _ _ _ (sym c.if-is_refusal.ensures) c.in-Err.ensures.err
    (λ file refused status. absurd (cc)) c.write_refusal.ensures.out c.write_refusal.ensures.answered

pub returns-in-Err-clause-decided : goal.returns-in-Err-clause-decided
returns-in-Err-clause-decided g c =
    let p = c.args.params.now in
    let f = c.in-Err.fault in
    refusal_written (Decides p) p f c.write_refusal.result _ _ _ _ _ _ (sym c.if-is_refusal.ensures) c.in-Err.ensures.err
    (λ file refused. refused_decides p file f (refused_line f) 1 refused.value) c.write_refusal.ensures.out c.write_refusal.ensures.answered

pub returns-in-Err-2-clause-begun : goal.returns-in-Err-2-clause-begun
returns-in-Err-2-clause-begun g c =
    nothing_of_outcome explained_text c.args.params.now c.in-Err.ensures.begun.0 _ _ _ c.in-Err.ensures.begun.1

pub returns-in-Err-2-clause-err : goal.returns-in-Err-2-clause-err
returns-in-Err-2-clause-err g c =
    where_broken c.args.params.now c.in-Err.fault _ _ _ _ _ _ (sym c.if-is_refusal.ensures) c.in-Err.ensures.err

-- ---- the verdict

pub returns-in_err-verdict-clause-begun : goal.returns-in_err-verdict-clause-begun
returns-in_err-verdict-clause-begun g c = where_failed c.from_residual.result
    (nothing_of_outcome explained_text c.args.params.now c.in-Ok.ensures.value.bytes _ _ _ c.in-Ok.ensures.value.consumed)

pub returns-clause-text : goal.returns-clause-text
returns-clause-text g c =
    let p = c.args.params.now in
    let verdict = c.in_ok-verdict.verdict in
    let status = status_of_verdict verdict in
    verdict_written (IsAudit p) (IsStored p c.in-Ok.store) c.write_verdict.result (text_of_verdict verdict) status _ _ _ _
    c.in-Ok.ensures.value
    (λ file stored. subst (λ (t : List ℕ). IsAudit p file t status) (audit_text verdict) (c.in_ok-verdict.ensures.stands explained_text p file stored.value))
    c.write_verdict.ensures.out c.write_verdict.ensures.answered

pub returns-clause-begun : goal.returns-clause-begun
returns-clause-begun g c =
    let p = c.args.params.now in
    let verdict = c.in_ok-verdict.verdict in
    let status = status_of_verdict verdict in
    outcome_begun (IsAudit p) (IsStored p c.in-Ok.store) c.write_verdict.result (text_of_verdict verdict) status _ _ _ _
    c.in-Ok.ensures.value
    (λ file stored. subst (λ (t : List ℕ). IsAudit p file t status) (audit_text verdict) (c.in_ok-verdict.ensures.stands explained_text p file stored.value))
    c.write_verdict.ensures.out

pub returns-clause-headline : goal.returns-clause-headline
returns-clause-headline g c =
    let p = c.args.params.now in
    let verdict = c.in_ok-verdict.verdict in
    verdict_written (ClaimsHeadline p) (IsStored p c.in-Ok.store) c.write_verdict.result (text_of_verdict verdict) (status_of_verdict verdict) _ _ _ _
    c.in-Ok.ensures.value (λ file stored. c.in_ok-verdict.ensures.headline p file stored.value)
    c.write_verdict.ensures.out c.write_verdict.ensures.answered

pub returns-clause-decided : goal.returns-clause-decided
returns-clause-decided g c =
    let p = c.args.params.now in
    let verdict = c.in_ok-verdict.verdict in
    let status = status_of_verdict verdict in
    verdict_written (Decides p) (IsStored p c.in-Ok.store) c.write_verdict.result (text_of_verdict verdict) status _ _ _ _
    c.in-Ok.ensures.value
    (λ file stored. subst (λ (t : List ℕ). Decides p file t status) (audit_text verdict) (c.in_ok-verdict.ensures.decided explained_text p file stored.value))
    c.write_verdict.ensures.out c.write_verdict.ensures.answered
