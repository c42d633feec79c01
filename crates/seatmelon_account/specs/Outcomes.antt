-- What an outcome says of a capture.
use Rattle.std.specs.Prelude.{◌≡◌, ℕ, List, Bool, false, ◌&&◌, Option, None, Some, is_some, Ok, nat_eq}
use Rattle.std.specs.Prelude.{nat_lt, ⊤}
use Rattle.std.specs.List.{find}
use Rattle.rasta_pdu.specs.Params.{Parameters}
use Rattle.rasta_check.specs.Capture.Crossing.{Crossing}
use Rattle.rasta_verdict.specs.Given.{IsExplained}
use Rattle.seatmelon_account.specs.Account.{IsAccount}
use Rattle.seatmelon_account.specs.declared.account.Account.{Account}
use Rattle.seatmelon_account.specs.declared.account.Inputs.{Inputs}
use Rattle.seatmelon_account.specs.declared.account.Verdict.{Verdict}
use Rattle.seatmelon_account.specs.declared.account.Verdict.TheVariants as verdicts
use Rattle.seatmelon_account.specs.declared.outcome.Outcome.{Outcome}
use Rattle.seatmelon_account.specs.declared.outcome.Outcome.TheVariants as outcomes
use Rattle.seatmelon_pcapng.specs.Formats.{capture_of}
use Rattle.seatmelon_reading.specs.Reading.{IsReading, crossing_without}
use Rattle.seatmelon_reading.specs.declared.capture_refusal.CaptureRefusal.{CaptureRefusal}
use Rattle.seatmelon_reading.specs.declared.reading.Reading.{Reading}

-- what the verdict of an account comes to
abbrev pub outcome_in : Verdict → Outcome
outcome_in verdicts.NoPackets = outcomes.NoPackets
outcome_in (verdicts.Refused refusal) = outcomes.Refused
outcome_in (verdicts.Explained explained) = outcomes.Explained

-- something that crossed is explained
abbrev pub IsSomeExplained : Option (List ℕ) → Type 0
IsSomeExplained text = (k : Crossing) × IsExplained k text

-- the records of its classic capture that stay, where the file is known, have no fault, and what crossed by them is
-- explained
abbrev pub IsFileExplained : Parameters → List ℕ → Option (List ℕ) → Option (List ℕ) → Type 0
IsFileExplained p without text None = ⊤
IsFileExplained p without text (Some file) = (k : Crossing) × (crossing_without p without (capture_of file) ≡ Ok k)
    × IsExplained k text

-- the first record that is to be left out and that a capture of so many doesn't have
abbrev pub IsMissing : List ℕ → ℕ → Option ℕ → Type 0
IsMissing without records found = found ≡ find (nat_lt records) without

-- it names a record that the capture doesn't have
abbrev pub NamesRecord : Outcome → Type 0
NamesRecord outcomes.Explained = ⊥
NamesRecord outcomes.Refused = ⊥
NamesRecord outcomes.NoPackets = ⊥
NamesRecord (outcomes.NoRecord number records) = ⊤

-- a gap in the numbers of an end refuses the capture
abbrev pub is_gap : Option CaptureRefusal → Bool
is_gap None = false
is_gap (Some refusal) = nat_eq refusal.fault.number 28

-- PDUs are to be supposed, and the packets were kept for it
abbrev pub asks_supposed : Inputs → Reading → Bool
asks_supposed inputs reading = is_some inputs.suppose && (reading.notes.tape.is_kept && is_gap reading.refusal)

-- where no record that is to be left out is missing, an account of what was read comes to this
abbrev pub IsToldIf : Option ℕ → Inputs → Reading → Outcome → Type 0
IsToldIf None inputs reading outcome = (a : Account) × IsAccount inputs reading a
    × (is_some a.hypothesis ≡ asks_supposed inputs reading)
    × (outcome ≡ outcome_in a.verdict)
IsToldIf (Some number) inputs reading outcome = outcome ≡ outcomes.NoRecord number reading.notes.records

abbrev pub IsToldBy : Inputs → Reading → Outcome → Type 0
IsToldBy inputs reading outcome =
    IsToldIf (find (nat_lt reading.notes.records) inputs.without.now) inputs reading outcome

-- an account of what was read of the file, where it is known, comes to this
abbrev pub IsFileTold : Inputs → Option (List ℕ) → Outcome → Type 0
IsFileTold inputs None outcome = ⊤
IsFileTold inputs (Some file) outcome = (r : Reading) × IsReading inputs.params.now inputs.without.now file r
    × IsToldBy inputs r outcome
