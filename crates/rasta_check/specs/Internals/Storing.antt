-- What a store that was read from a reader says of every file that begins with what was read.
use Rattle.std.specs.Prelude.{◌≡◌, ◌⊎◌, ℕ, List, Bool, true, false, Option, Result, Ok, Err, IsSome}
use Rattle.rasta_pcap.specs.declared.fault.Fault.{Fault}
use Rattle.rasta_pcap.specs.declared.stream.Progress.TheVariants.{Reading}
use Rattle.rasta_pcap.specs.declared.stream.RecordReader.{RecordReader}
use Rattle.rasta_pcap.specs.Fault.{no_memory, read_failed}
use Rattle.rasta_pcap.specs.Capture.{cursor_at, reading}
use Rattle.rasta_pcap.specs.Devices.{HasFailed}
use Rattle.rasta_pcap.specs.Stream.{MeetsEnd, ReadsRecord, count_in, order_in, progress_of}
use Rattle.rasta_pdu.specs.Params.{Parameters}
use Rattle.rasta_pdu.specs.Messages.{AreBytes}
use Rattle.rasta_check.specs.Capture.SentLists.{FirstCopy}
use Rattle.rasta_check.specs.Capture.Crossing.{Crossing}
use Rattle.rasta_check.specs.Capture.Reading.{after_reading, after_record, crossing_of}
use Rattle.rasta_check.specs.Capture.Faults.{Impossible, IsFaultlessCapture, packets_through}

-- this crossed by a file, and exactly a capture without a fault is read so
pub record IsStored (p : Parameters) (k : Crossing) (file : List ℕ) : Type 0 where
  pub value : crossing_of p file ≡ Ok k
  pub read : AreBytes file → IsFaultlessCapture p file k.client k.server

-- this is the first fault of a file, and where it speaks of a side no run sends packets that begin with those up to its
-- record
pub record IsRefusedSo (p : Parameters) (fault : Fault) (file : List ℕ) : Type 0 where
  pub value : crossing_of p file ≡ Err fault
  pub only : AreBytes file → (client server : List FirstCopy) → IsFaultlessCapture p file client server → ⊥
  pub definite : AreBytes file → IsSome fault.end → Impossible p (packets_through p file fault.place)

-- out of memory, or a read that failed
abbrev pub IsFailure : Fault → ℕ → ℕ → Type 0
IsFailure f old_count new_count = (f ≡ no_memory) ⊎ ((f ≡ read_failed) × HasFailed old_count new_count)

-- ---- on the way

-- what crosses by at most so many more records, where these bytes are left, or their first fault
abbrev pub crossing_left : Crossing → RecordReader → ℕ → List ℕ → Result Crossing Fault
crossing_left k records left rest =
    after_reading k (reading left (cursor_at (order_in records) rest (count_in records)))

-- one record was read and what it holds was added, and the reading goes on
pub record AddsRecord (k next : Crossing) (old new : RecordReader)
    (old_input new_input : Option (List ℕ)) : Type 0 where
  pub bytes : List ℕ
  pub read : ReadsRecord (order_in old) (count_in old) (count_in new, bytes) old_input new_input
  pub added : after_record k (count_in new, bytes) ≡ Ok next
  pub order : order_in new ≡ order_in old
  pub goes_on : progress_of new ≡ Reading

-- the next record was added, or there was none
abbrev pub AddsNext : Bool → Crossing → Crossing → RecordReader → RecordReader → Option (List ℕ) → Option (List ℕ)
    → Type 0
AddsNext true k next old new old_input new_input = AddsRecord k next old new old_input new_input
AddsNext false k next old new old_input new_input = (next ≡ k) × MeetsEnd old_input new_input
