use Rattle.std.proofs.Common.{sym}
use Rattle.rasta_check.specs.Internals.Storing.{IsRefusedSo, IsStored}
use Rattle.rasta_line.specs.Texts.{refused_line}
use Rattle.rasta_verdict.specs.Claims.{ClaimsHeadline}
use Rattle.rasta_verdict.specs.Judged.{status_of_verdict, text_of_verdict}
use Rattle.rasta_verdict.specs.Verdict.{IsVerdict, capture_refused}
use Rattle.rasta_pcap.proofs.Sending.{where_failed}
use Rattle.rasta_verdict.proofs.Refusing.{refusal_written, where_broken, where_refused}
use Rattle.rasta_verdict.proofs.Verdicts.{nothing_begun, one_verdict, still_silent, verdict_begun, verdict_written, write_fault}
use Rattle.rasta_verdict.proofs.check.run_check_by_value.Goals as goal

-- ---- the capture is refused, or can't be read

pub returns-in-Err-clause-text : goal.returns-in-Err-clause-text
returns-in-Err-clause-text g c =
    let p = c.args.params.now in
    let f = c.in-Err.fault in
    refusal_written (IsVerdict p (g.C.AsSlice.items c.args.certificate)) p f c.write_refusal.result _ _ _ _ _ _ (sym c.if-is_refusal.ensures) c.in-Err.ensures.err
    (λ file refused. capture_refused f refused.value) c.write_refusal.ensures.out c.write_refusal.ensures.answered

pub returns-in-Err-clause-begun : goal.returns-in-Err-clause-begun
returns-in-Err-clause-begun g c =
    let p = c.args.params.now in
    let f = c.in-Err.fault in
    verdict_begun (IsVerdict p (g.C.AsSlice.items c.args.certificate)) (IsRefusedSo p f) c.write_refusal.result (refused_line f) _ _ _ _
    (where_refused p f _ _ _ _ (sym c.if-is_refusal.ensures) c.in-Err.ensures.err)
    (λ file t s refused other. one_verdict p (g.C.AsSlice.items c.args.certificate) file t (refused_line f) s 1 other (capture_refused f refused.value))
    c.write_refusal.ensures.out

pub returns-in-Err-clause-headline : goal.returns-in-Err-clause-headline
returns-in-Err-clause-headline g c =
    let p = c.args.params.now in
    let f = c.in-Err.fault in
    refusal_written (ClaimsHeadline p) p f c.write_refusal.result _ _ _ _ _ _ (sym c.if-is_refusal.ensures) c.in-Err.ensures.err
    (λ file refused status. absurd (cc)) c.write_refusal.ensures.out c.write_refusal.ensures.answered

pub returns-in-Err-clause-err : goal.returns-in-Err-clause-err
returns-in-Err-clause-err g c = write_fault g.W.Sink.failure_count c.write_refusal.result _ _ _ _ c.write_refusal.ensures.written

pub returns-in-Err-2-clause-begun : goal.returns-in-Err-2-clause-begun
returns-in-Err-2-clause-begun g c =
    nothing_begun (IsVerdict c.args.params.now (g.C.AsSlice.items c.args.certificate)) c.in-Err.ensures.begun.0 _ _ _ c.in-Err.ensures.begun.1

pub returns-in-Err-2-clause-err : goal.returns-in-Err-2-clause-err
returns-in-Err-2-clause-err g c =
    where_broken c.args.params.now c.in-Err.fault _ _ _ _ _ _ (sym c.if-is_refusal.ensures) c.in-Err.ensures.err

-- ---- the verdict

pub returns-in_err-verdict-clause-begun : goal.returns-in_err-verdict-clause-begun
returns-in_err-verdict-clause-begun g c = where_failed c.from_residual.result
    (nothing_begun (IsVerdict c.args.params.now (g.C.AsSlice.items c.args.certificate)) c.in-Ok.ensures.value.bytes _ _ _ c.in-Ok.ensures.value.consumed)

pub returns-in_err-verdict-clause-silent : goal.returns-in_err-verdict-clause-silent
returns-in_err-verdict-clause-silent g c = still_silent c.from_residual.result _

pub returns-clause-text : goal.returns-clause-text
returns-clause-text g c =
    let p = c.args.params.now in
    let verdict = c.in_ok-verdict.verdict in
    verdict_written (IsVerdict p (g.C.AsSlice.items c.args.certificate)) (IsStored p c.in-Ok.store) c.write_verdict.result (text_of_verdict verdict) (status_of_verdict verdict) _ _ _ _
    c.in-Ok.ensures.value (λ file stored. c.in_ok-verdict.ensures.stands p file stored.value)
    c.write_verdict.ensures.out c.write_verdict.ensures.answered

pub returns-clause-begun : goal.returns-clause-begun
returns-clause-begun g c =
    let p = c.args.params.now in
    let certificate = g.C.AsSlice.items c.args.certificate in
    let text = text_of_verdict c.in_ok-verdict.verdict in
    let status = status_of_verdict c.in_ok-verdict.verdict in
    verdict_begun (IsVerdict p certificate) (IsStored p c.in-Ok.store) c.write_verdict.result text _ _ _ _
    c.in-Ok.ensures.value
    (λ file t s stored other. one_verdict p certificate file t text s status other (c.in_ok-verdict.ensures.stands p file stored.value))
    c.write_verdict.ensures.out

pub returns-clause-err : goal.returns-clause-err
returns-clause-err g c = write_fault g.W.Sink.failure_count c.write_verdict.result _ _ _ _ c.write_verdict.ensures.written

pub returns-clause-headline : goal.returns-clause-headline
returns-clause-headline g c =
    let p = c.args.params.now in
    let verdict = c.in_ok-verdict.verdict in
    verdict_written (ClaimsHeadline p) (IsStored p c.in-Ok.store) c.write_verdict.result (text_of_verdict verdict) (status_of_verdict verdict) _ _ _ _
    c.in-Ok.ensures.value (λ file stored. c.in_ok-verdict.ensures.headline p file stored.value)
    c.write_verdict.ensures.out c.write_verdict.ensures.answered
