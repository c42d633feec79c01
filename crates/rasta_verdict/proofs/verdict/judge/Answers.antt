use Rattle.std.proofs.Common.{◌≡◌, List, ℕ, Ok}
use Rattle.rasta_pdu.specs.Params.{Parameters}
use Rattle.rasta_check.specs.Capture.Reading.{crossing_of}
use Rattle.rasta_verdict.specs.Verdict as verdict
use Rattle.rasta_verdict.specs.Verdict.{IsVerdict}
use Rattle.rasta_verdict.proofs.Judging.{judged_claims, refusal_claims, refusal_of}
use Rattle.rasta_verdict.proofs.Verdicts.{refusal_stands, refusal_told, swapped}
use Rattle.rasta_verdict.proofs.verdict.judge.Goals as goal

pub returns-in-Err-clause-stands : goal.returns-in-Err-clause-stands
returns-in-Err-clause-stands g c = refusal_stands
    (λ (text : List ℕ) (status : ℕ). (p : Parameters) (file : List ℕ) → crossing_of p file ≡ Ok c.args.store.now → IsVerdict p (g.C.AsSlice.items c.args.certificate) file text status)
    c.unscripted.result c.in-Err.fault c.unscripted.ensures.ok (swapped c.in-Err.ensures.err)
    (λ refused p file crossed. verdict.certificate_refused c.args.store.now c.in-Err.fault crossed refused)

pub returns-in-Err-clause-told : goal.returns-in-Err-clause-told
returns-in-Err-clause-told g c = refusal_told c.unscripted.result c.in-Err.fault c.unscripted.ensures.ok

pub returns-in-Ok-clause-headline : goal.returns-in-Ok-clause-headline
returns-in-Ok-clause-headline g c = judged_claims c.judge_scripts.result c.args.store.now c.in-Ok.certificate c.judge_scripts.ensures.judged

pub returns-in-Err-clause-headline : goal.returns-in-Err-clause-headline
returns-in-Err-clause-headline g c = refusal_claims c.unscripted.result c.args.store.now c.in-Err.fault
    (refusal_of c.unscripted.result c.in-Err.fault c.unscripted.ensures.ok)
