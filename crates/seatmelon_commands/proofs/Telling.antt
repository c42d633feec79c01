-- What an account of what was read of a file says of that file.
use Rattle.std.proofs.Common.{◌≡◌, ◌∙◌, ap, sym, ℕ, List, Option, None, Some, Result, Ok, Err, IfOk, IfSome, nat_lt}
use Rattle.std.specs.List.{find}
use Rattle.rasta_pcap.specs.declared.fault.Fault.{Fault}
use Rattle.rasta_pdu.specs.Params.{Parameters}
use Rattle.rasta_check.specs.Capture.Crossing.{Crossing}
use Rattle.rasta_verdict.specs.Given.{IsExplained}
use Rattle.seatmelon_account.specs.Account.{IsToldOf, text_in}
use Rattle.seatmelon_account.specs.declared.account.Inputs.{Inputs}
use Rattle.seatmelon_account.specs.declared.account.Verdict.{Verdict}
use Rattle.seatmelon_account.specs.declared.account.Verdict.TheVariants as verdicts
use Rattle.seatmelon_account.specs.Outcomes.{IsFileExplained, IsFileTold, IsSomeExplained, IsToldBy, IsToldIf, outcome_in}
use Rattle.seatmelon_account.specs.declared.outcome.Outcome.{Outcome}
use Rattle.seatmelon_account.specs.declared.outcome.Outcome.TheVariants as outcomes
use Rattle.seatmelon_reading.specs.Reading.{IsReading, standing_with}
use Rattle.seatmelon_reading.specs.declared.capture_refusal.CaptureRefusal.{CaptureRefusal}
use Rattle.seatmelon_reading.specs.declared.reading.Reading.{Reading}

-- a verdict that comes to 'explained' says so of what crossed
verdict_explained : (p : Parameters) (k : Crossing) (before : ℕ) (refusal : Option CaptureRefusal) (text : Option (List ℕ)) (v : Verdict)
    → IsToldOf p k before refusal text v → outcomes.Explained ≡ outcome_in v → (refusal ≡ None) × IsExplained k text
verdict_explained p k before refusal text verdicts.NoPackets told is = absurd (cc)
verdict_explained p k before refusal text (verdicts.Refused r) told is = absurd (cc)
verdict_explained p k before refusal text (verdicts.Explained e) told is = (told.0, (told.1.report, told.1.answered))

-- so does the account of what was read; there is one where no record that is to be left out is missing
told_if : (missing : Option ℕ) (i : Inputs) (r : Reading) (o : Outcome) → IsToldIf missing i r o → o ≡ outcomes.Explained
    → (r.refusal ≡ None) × IsExplained r.store (text_in i)
told_if None i r o told is = verdict_explained i.params.now r.store r.notes.before r.refusal (text_in i) told.0.verdict told.1.verdict (sym is ∙ told.3)
told_if (Some number) i r o told is = absurd (cc)

told_explained : (i : Inputs) (r : Reading) (o : Outcome) → IsToldBy i r o → o ≡ outcomes.Explained → (r.refusal ≡ None) × IsExplained r.store (text_in i)
told_explained i r o told is = told_if (find (nat_lt r.notes.records) i.without.now) i r o told is

-- what is explained of what was read is explained of the file
file_explained : (i : Inputs) (r : Reading) (known : Option (List ℕ)) (o : Outcome)
    → IfSome known (λ file. IsReading i.params.now i.without.now file r) → IsToldBy i r o → o ≡ outcomes.Explained
    → IsFileExplained i.params.now i.without.now (text_in i) known
file_explained i r None o read told is = tt
file_explained i r (Some file) o read told is = let h = told_explained i r o told is in
    (r.store, sym read.crossed ∙ ap (standing_with r.store) h.0, h.1)

-- where an outcome is that an account says 'explained', the file is
pub outcome_explained : (i : Inputs) (r : Reading) (known : Option (List ℕ)) (x : Result Outcome Fault)
    → IfSome known (λ file. IsReading i.params.now i.without.now file r) → IfOk x (IsToldBy i r)
    → IfOk x (λ o. o ≡ outcomes.Explained → IsFileExplained i.params.now i.without.now (text_in i) known)
outcome_explained i r known (Err e) read told = tt
outcome_explained i r known (Ok o) read told = λ is. file_explained i r known o read told is

-- and something is
pub outcome_judged : (i : Inputs) (r : Reading) (x : Result Outcome Fault) → IfOk x (IsToldBy i r)
    → IfOk x (λ o. o ≡ outcomes.Explained → IsSomeExplained (text_in i))
outcome_judged i r (Err e) told = tt
outcome_judged i r (Ok o) told = λ is. (r.store, (told_explained i r o told is).1)

told_of_file : (i : Inputs) (r : Reading) (known : Option (List ℕ)) (o : Outcome)
    → IfSome known (λ file. IsReading i.params.now i.without.now file r) → IsToldBy i r o → IsFileTold i known o
told_of_file i r None o read told = tt
told_of_file i r (Some file) o read told = (r, read, told)

-- the outcome of an account of what was read is told of the file
pub outcome_told : (i : Inputs) (r : Reading) (known : Option (List ℕ)) (x : Result Outcome Fault)
    → IfSome known (λ file. IsReading i.params.now i.without.now file r) → IfOk x (IsToldBy i r) → IfOk x (IsFileTold i known)
outcome_told i r known (Err e) read told = tt
outcome_told i r known (Ok o) read told = told_of_file i r known o read told
