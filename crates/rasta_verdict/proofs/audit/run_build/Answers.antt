use Rattle.std.proofs.Common.{sym}
use Rattle.rasta_check.specs.Internals.Storing.{IsRefusedSo, IsStored}
use Rattle.rasta_line.specs.Texts.{refused_line}
use Rattle.rasta_verdict.specs.Decided.{Decides}
use Rattle.rasta_verdict.specs.Judged.{status_of_verdict, told_verdict}
use Rattle.rasta_verdict.specs.Proposed.{IsBuild, built_text, capture_refused}
use Rattle.rasta_pcap.proofs.Sending.{where_failed}
use Rattle.rasta_verdict.proofs.Proposals.{nothing_of_outcome, outcome_begun, refused_decides}
use Rattle.rasta_verdict.proofs.Refusing.{refusal_written, where_broken, where_refused}
use Rattle.rasta_verdict.proofs.Verdicts.{verdict_written}
use Rattle.rasta_verdict.proofs.audit.run_build.Goals as goal

-- ---- the capture is refused, or can't be read

pub returns-in-Err-clause-text : goal.returns-in-Err-clause-text
returns-in-Err-clause-text g c =
    let p = c.args.params.now in
    let f = c.in-Err.refusal in
    refusal_written (IsBuild p) p f c.write_refusal.result _ _ _ _ _ _ (sym c.if-is_refusal.ensures) c.in-Err.ensures.err
    (λ file refused. capture_refused f refused.value) c.write_refusal.ensures.out c.write_refusal.ensures.answered

pub returns-in-Err-clause-begun : goal.returns-in-Err-clause-begun
returns-in-Err-clause-begun g c =
    let p = c.args.params.now in
    let f = c.in-Err.refusal in
    outcome_begun (IsBuild p) (IsRefusedSo p f) c.write_refusal.result (refused_line f) 1 _ _ _ _
    (where_refused p f _ _ _ _ (sym c.if-is_refusal.ensures) c.in-Err.ensures.err)
    (λ file refused. capture_refused f refused.value)
    c.write_refusal.ensures.out

pub returns-in-Err-clause-decided : goal.returns-in-Err-clause-decided
returns-in-Err-clause-decided g c =
    let p = c.args.params.now in
    let f = c.in-Err.refusal in
    refusal_written (Decides p) p f c.write_refusal.result _ _ _ _ _ _ (sym c.if-is_refusal.ensures) c.in-Err.ensures.err
    (λ file refused. refused_decides p file f (refused_line f) 1 refused.value) c.write_refusal.ensures.out c.write_refusal.ensures.answered

pub returns-in-Err-2-clause-begun : goal.returns-in-Err-2-clause-begun
returns-in-Err-2-clause-begun g c =
    nothing_of_outcome built_text c.args.params.now c.in-Err.ensures.begun.0 _ _ _ c.in-Err.ensures.begun.1

pub returns-in-Err-2-clause-err : goal.returns-in-Err-2-clause-err
returns-in-Err-2-clause-err g c =
    where_broken c.args.params.now c.in-Err.refusal _ _ _ _ _ _ (sym c.if-is_refusal.ensures) c.in-Err.ensures.err

-- ---- the verdict

pub returns-in_err-verdict-clause-begun : goal.returns-in_err-verdict-clause-begun
returns-in_err-verdict-clause-begun g c = where_failed c.from_residual.result
    (nothing_of_outcome built_text c.args.params.now c.in-Ok.ensures.value.bytes _ _ _ c.in-Ok.ensures.value.consumed)

pub returns-clause-text : goal.returns-clause-text
returns-clause-text g c =
    let p = c.args.params.now in
    let verdict = c.in_ok-verdict.verdict in
    verdict_written (IsBuild p) (IsStored p c.in-Ok.store) c.write_found.result (told_verdict built_text verdict) (status_of_verdict verdict) _ _ _ _
    c.in-Ok.ensures.value (λ file stored. c.in_ok-verdict.ensures.stands built_text p file stored.value)
    c.write_found.ensures.out c.write_found.ensures.answered

pub returns-clause-begun : goal.returns-clause-begun
returns-clause-begun g c =
    let p = c.args.params.now in
    let verdict = c.in_ok-verdict.verdict in
    outcome_begun (IsBuild p) (IsStored p c.in-Ok.store) c.write_found.result (told_verdict built_text verdict) (status_of_verdict verdict) _ _ _ _
    c.in-Ok.ensures.value (λ file stored. c.in_ok-verdict.ensures.stands built_text p file stored.value)
    c.write_found.ensures.out

pub returns-clause-decided : goal.returns-clause-decided
returns-clause-decided g c =
    let p = c.args.params.now in
    let verdict = c.in_ok-verdict.verdict in
    verdict_written (Decides p) (IsStored p c.in-Ok.store) c.write_found.result (told_verdict built_text verdict) (status_of_verdict verdict) _ _ _ _
    c.in-Ok.ensures.value (λ file stored. c.in_ok-verdict.ensures.decided built_text p file stored.value)
    c.write_found.ensures.out c.write_found.ensures.answered
