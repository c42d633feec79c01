-- A capture that comes from a reader in pieces: what was read of it, and what that says of the whole.
use Rattle.std.specs.Prelude.{◌≡◌, ℕ, ◌<◌, List, [], ◌++◌, take, vec_len, Bool, true, Option, Some, None, Result, Ok}
use Rattle.std.specs.Prelude.{Err}
use Rattle.std.specs.Io.KnownBytes.{Consumes, IsAtEnd}
use Rattle.rasta_pcap.specs.declared.fault.Fault.{Fault}
use Rattle.rasta_pcap.specs.declared.pcap.Endianness.{Endianness}
use Rattle.rasta_pcap.specs.declared.stream.Progress.{Progress}
use Rattle.rasta_pcap.specs.declared.stream.Progress.TheVariants.{Reading, Ended, Refused}
use Rattle.rasta_pcap.specs.declared.stream.RecordBuffer.{RecordBuffer}
use Rattle.rasta_pcap.specs.declared.stream.RecordReader.{RecordReader}
use Rattle.rasta_pcap.specs.declared.time.CaptureTime.{CaptureTime}
use Rattle.rasta_pcap.specs.declared.time.FractionUnit.{FractionUnit}
use Rattle.rasta_pcap.specs.Fault.{no_memory, read_failed}
use Rattle.rasta_pcap.specs.Devices.{HasFailed}
pub use Rattle.rasta_pcap.specs.Filling.{IsFilled, ReadsUpTo}
use Rattle.rasta_pcap.specs.Capture.{Numbered, captured_length, cursor_at, opening, next, cursor_after}

-- nothing follows where the end of input was met
abbrev pub MayFollow : Bool → List ℕ → Type 0
MayFollow met_end more = met_end ≡ true → more ≡ []

-- bytes were read, perhaps to the end of input, and this holds of every input that begins so
pub record ReadsSo (P : List ℕ → Type 0) (old new : Option (List ℕ)) : Type 0 where
  pub bytes : List ℕ
  pub met_end : Bool
  pub consumed : Consumes old new bytes
  pub at_end : met_end ≡ true → IsAtEnd new
  pub each : (more : List ℕ) → MayFollow met_end more → P (bytes ++ more)

-- bytes were read, and this holds of every input that begins so and of what follows them
pub record ReadsJust (P : List ℕ → List ℕ → Type 0) (old new : Option (List ℕ)) : Type 0 where
  pub bytes : List ℕ
  pub consumed : Consumes old new bytes
  pub each : (more : List ℕ) → P (bytes ++ more) more

-- the reader failed, and at most so many bytes were read
abbrev pub FailsWithin : ℕ → Fault → ℕ → ℕ → Option (List ℕ) → Option (List ℕ) → Type 0
FailsWithin most f old_count new_count old new = (f ≡ read_failed) × HasFailed old_count new_count
    × ReadsUpTo most old new

-- the bytes in the buffer
abbrev pub bytes_in : RecordBuffer → List ℕ
bytes_in b = take b.len b.memory.items

-- how many bytes it can hold before it grows
abbrev pub memory_of : RecordBuffer → ℕ
memory_of b = vec_len b.memory

-- how a reading stands: in what byte order, after how many records, and whether it goes on
abbrev pub order_in : RecordReader → Endianness
order_in r = r.order

abbrev pub count_in : RecordReader → ℕ
count_in r = r.count

abbrev pub progress_of : RecordReader → Progress
progress_of r = r.progress

-- the unit of its file's times, and the time of the record read last
abbrev pub unit_in : RecordReader → FractionUnit
unit_in r = r.unit

abbrev pub time_in : RecordReader → Option CaptureTime
time_in r = r.time

-- how many bytes its buffer can hold before it grows
abbrev pub room_in : RecordReader → ℕ
room_in r = memory_of r.buffer

-- the bytes of the record read last
abbrev pub lent_by : RecordReader → List ℕ
lent_by r = bytes_in r.buffer

-- a header was read, and the cursor of every file that begins so stands after it
abbrev pub Opens : Endianness → Option (List ℕ) → Option (List ℕ) → Type 0
Opens order old new = ReadsJust (λ file rest. opening file ≡ Ok (cursor_at order rest 0)) old new

-- every file that begins so has a header with this fault
abbrev pub RefusesHeader : Fault → Option (List ℕ) → Option (List ℕ) → Type 0
RefusesHeader f old new = ReadsSo (λ file. opening file ≡ Err f) old new

-- one record was read: for every file that begins so, the cursor moves after it
abbrev pub ReadsRecord : Endianness → ℕ → Numbered → Option (List ℕ) → Option (List ℕ) → Type 0
ReadsRecord order count r old new = ReadsJust
    (λ rest after. (next (cursor_at order rest count) ≡ Ok (Some r))
    × (cursor_after (cursor_at order rest count) ≡ cursor_at order after r.0))
    old new

-- nothing was read, since the file ends here
abbrev pub MeetsEnd : Option (List ℕ) → Option (List ℕ) → Type 0
MeetsEnd old new = Consumes old new [] × IsAtEnd new

-- every file that begins so has this fault at its next record
abbrev pub RefusesRecord : Endianness → ℕ → Fault → Option (List ℕ) → Option (List ℕ) → Type 0
RefusesRecord order count f old new = ReadsSo (λ rest. next (cursor_at order rest count) ≡ Err f) old new

-- the header of a record was read, whose bytes don't fit the memory
abbrev pub LacksMemory : Endianness → ℕ → Fault → Option (List ℕ) → Option (List ℕ) → Type 0
LacksMemory order memory f old new = (f ≡ no_memory)
    × ReadsJust (λ rest after. memory < captured_length order (take 16 rest)) old new

-- what a reading that has stopped answers again
abbrev pub again : Progress → Result (Option ℕ) Fault
again Reading = Ok None
again Ended = Ok None
again (Refused f) = Err f

-- whether a reading goes on after its answer
abbrev pub after_answer : Result (Option ℕ) Fault → Progress
after_answer (Ok (Some n)) = Reading
after_answer (Ok None) = Ended
after_answer (Err f) = Refused f

-- after how many records a reading stands then
abbrev pub count_after : ℕ → Result (Option ℕ) Fault → ℕ
count_after count (Ok (Some n)) = n
count_after count (Ok None) = count
count_after count (Err f) = count
