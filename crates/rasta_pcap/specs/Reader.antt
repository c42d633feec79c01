-- A stream, its reader, and one step of it.
use Rattle.std.specs.Prelude.{◌≡◌, ◌≢◌, ℕ, ◌+◌, ◌⊎◌, List, Option, Some, None, Result, Ok, Err, OnOk, OnErr, IfOk}
use Rattle.std.specs.Prelude.{IfErr, MatchOption}
use Rattle.rasta_pcap.specs.declared.fault.Fault.{Fault}
use Rattle.rasta_pcap.specs.declared.pcap.Record.{Record}
use Rattle.rasta_pcap.specs.declared.stream.Progress.TheVariants.{Reading}
use Rattle.rasta_pcap.specs.declared.stream.RecordReader.{RecordReader}
use Rattle.rasta_pcap.specs.declared.stream.Stream.{Stream}
use Rattle.rasta_pcap.specs.Capture.{max_captured}
use Rattle.rasta_pcap.specs.Extent.{ReadsWithinRecord}
use Rattle.rasta_pcap.specs.Times.{TellsTime}
use Rattle.rasta_pcap.specs.Stream.{order_in, unit_in, time_in, count_in, progress_of, lent_by, room_in, FailsWithin}
use Rattle.rasta_pcap.specs.Stream.{LacksMemory, ReadsRecord, MeetsEnd, RefusesRecord, again, after_answer, count_after}

abbrev pub reader_of : {R : Type 0} → Stream R → R
reader_of s = s.reader

abbrev pub records_of : {R : Type 0} → Stream R → RecordReader
records_of s = s.records

-- a step that answered so, with what the reader had left and how often it had failed
pub record Advances (old new : RecordReader) (old_input new_input : Option (List ℕ)) (old_count new_count : ℕ)
    (answer : Result (Option ℕ) Fault) : Type 0 where
  pub found : progress_of old ≡ Reading → IfOk answer (λ o. MatchOption o (MeetsEnd old_input new_input)
      (λ n. ReadsRecord (order_in old) (count_in old) (n, lent_by new) old_input new_input))
  pub err : progress_of old ≡ Reading → IfErr answer (λ f.
      FailsWithin (16 + max_captured) f old_count new_count old_input new_input
      ⊎ (LacksMemory (order_in old) (room_in old) f old_input new_input
      ⊎ RefusesRecord (order_in old) (count_in old) f old_input new_input))
  pub timed : progress_of old ≡ Reading → IfOk answer (λ o. MatchOption o (time_in new ≡ time_in old)
      (λ n. TellsTime (order_in old) (unit_in old) (time_in new) old_input new_input))
  pub untimed : OnErr answer (time_in new ≡ time_in old)
  pub within : progress_of old ≡ Reading → ReadsWithinRecord (order_in old) old_input new_input
  pub same : progress_of old ≢ Reading → answer ≡ again (progress_of old)
  pub idle : progress_of old ≢ Reading → (new ≡ old) × (new_input ≡ old_input) × (new_count ≡ old_count)
  pub order : order_in new ≡ order_in old
  pub unit : unit_in new ≡ unit_in old
  pub count : count_in new ≡ count_after (count_in old) answer
  pub progress : progress_of new ≡ after_answer answer
  pub steady : OnOk answer (new_count ≡ old_count)

-- the answer by the record's number
abbrev pub answer_of : Result (Option Record) Fault → Result (Option ℕ) Fault
answer_of (Ok (Some r)) = Ok (Some r.number)
answer_of (Ok None) = Ok None
answer_of (Err f) = Err f

-- a record's bytes are those in the buffer
abbrev pub LendsRecord : Result (Option Record) Fault → RecordReader → Type 0
LendsRecord (Ok (Some r)) reader = r.bytes.now ≡ lent_by reader
LendsRecord (Ok None) reader = Unit {0}
LendsRecord (Err f) reader = Unit {0}
