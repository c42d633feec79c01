-- What a device answered, its count of failures, and what went in and out.
use Rattle.std.specs.Prelude.{◌≡◌, ℕ, ◌+◌, ◌-◌, ◌^◌, ◌<◌, ◌++◌, min, List, Option, Result, Ok, Err, MatchResult, zero}
use Rattle.std.specs.Prelude.{suc, ◌⊎◌}
use Rattle.std.specs.Io.KnownBytes.{Appends}
use Rattle.rasta_pcap.specs.declared.counted.Counted.{Counted}
use Rattle.rasta_pcap.specs.declared.fault.Fault.{Fault}
use Rattle.rasta_pcap.specs.Fault.{write_failed}

-- the greatest count
abbrev pub greatest_count : ℕ
greatest_count = 2 ^ 64 - 1

-- one failure more, as far as the count goes
abbrev pub one_failure_more : ℕ → ℕ
one_failure_more n = min (n + 1) greatest_count

-- the count after a read
abbrev pub after_read : {E : Type 0} → ℕ → Result ℕ E → ℕ
after_read n (Ok k) = n
after_read n (Err e) = one_failure_more n

-- the count after a write: to take no byte is a failure
abbrev pub after_write : {E : Type 0} → ℕ → Result ℕ E → ℕ
after_write n (Ok zero) = one_failure_more n
after_write n (Ok (suc k)) = n
after_write n (Err e) = one_failure_more n

-- the device failed between these two counts: the count rose, or it can rise no more
abbrev pub HasFailed : ℕ → ℕ → Type 0
HasFailed old new = (old < new) ⊎ (new ≡ greatest_count)

-- a beginning of these bytes went out
abbrev pub AppendsBeginning : Option (List ℕ) → Option (List ℕ) → List ℕ → Type 0
AppendsBeginning old new bytes = (front : List ℕ) × (rest : List ℕ) × Appends old new front × (bytes ≡ front ++ rest)

-- what went out by an answer: these bytes, or a beginning of them where it is a fault
abbrev pub Writes : {A : Type 0} → Result A Fault → Option (List ℕ) → Option (List ℕ) → List ℕ → Type 0
Writes result old new bytes = MatchResult result (λ _. Appends old new bytes) (λ _. AppendsBeginning old new bytes)

-- an answer of a writer by the counts of its failed writes before and after: none failed, or the fault of one that did
abbrev pub AsWritten : {W A : Type 0} → (W → ℕ) → Result A Fault → W → W → Type 0
AsWritten count result old new =
    MatchResult result (λ _. count new ≡ count old) (λ f. (f ≡ write_failed) × HasFailed (count old) (count new))

-- the device of a counted one
abbrev pub device_of : {D : Type 0} → Counted D → D
device_of c = c.device

-- how many calls of a counted device have failed
abbrev pub failures_of : {D : Type 0} → Counted D → ℕ
failures_of c = c.failures
