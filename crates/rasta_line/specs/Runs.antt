-- What a run read and wrote.
use Rattle.std.specs.Prelude.{◌≡◌, ◌⊎◌, Bool, true, ℕ, List, ◌++◌, Option}
use Rattle.std.specs.Io.KnownBytes.{Appends, Consumes, IsAtEnd}
use Rattle.rasta_pcap.specs.declared.fault.Fault.{Fault}
use Rattle.rasta_pcap.specs.declared.pcap.Endianness.{Endianness}
use Rattle.rasta_pcap.specs.Fault.{no_memory, read_failed, write_failed}
use Rattle.rasta_pcap.specs.Devices.{HasFailed}
use Rattle.rasta_pcap.specs.Extent.{HasRead, ReadsUpToRecord}
pub use Rattle.rasta_pcap.specs.Stream.{MayFollow}

-- some input was read, perhaps to its end, and some output was written; and this holds of every input that begins so,
-- and of what was written
pub record ReadsAndWrites (Holds : List ℕ → List ℕ
    → Type 0) (old_input new_input old_output new_output : Option (List ℕ)) : Type 0 where
  pub input : List ℕ
  pub met_end : Bool
  pub consumed : Consumes old_input new_input input
  pub at_end : met_end ≡ true → IsAtEnd new_input
  pub output : List ℕ
  pub appended : Appends old_output new_output output
  pub holds : (more : List ℕ) → MayFollow met_end more → Holds (input ++ more) output

-- what was written is the text of every such input, and the answer is the status of each of them
abbrev pub WritesText : (List ℕ → List ℕ) → (List ℕ → ℕ) → ℕ → Option (List ℕ) → Option (List ℕ) → Option (List ℕ)
    → Option (List ℕ) → Type 0
WritesText text status answer = ReadsAndWrites (λ file output. (output ≡ text file) × (answer ≡ status file))

-- what was written begins the text of every such input
abbrev pub WritesBeginning : (List ℕ → List ℕ) → Option (List ℕ) → Option (List ℕ) → Option (List ℕ) → Option (List ℕ)
    → Type 0
WritesBeginning text = ReadsAndWrites (λ file output. (rest : List ℕ) × (text file ≡ output ++ rest))

-- where the header of a capture was read before and no record, nothing was read after the record with this number
abbrev pub GoesUpToRecord : Endianness → ℕ → Option (List ℕ) → Option (List ℕ) → Type 0
GoesUpToRecord order limit old new = (first : Option (List ℕ)) → HasRead order 0 first old
    → ReadsUpToRecord limit first new

-- out of memory, a reader that failed, or a writer that failed or took no byte
abbrev pub IsRunFault : Fault → ℕ → ℕ → ℕ → ℕ → Type 0
IsRunFault f old_reads new_reads old_writes new_writes = (f ≡ no_memory)
    ⊎ (((f ≡ read_failed) × HasFailed old_reads new_reads)
    ⊎ ((f ≡ write_failed) × HasFailed old_writes new_writes))
