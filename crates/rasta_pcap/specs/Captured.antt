-- What was captured: the records of a file, each with its time, and a walk over them up to the fault that ends it.
use Rattle.std.specs.Prelude.{ℕ, zero, suc, List, [], ◌∷◌, ◌++◌, map, take, Option, Some, None, Result, Ok, Err}
use Rattle.rasta_pcap.specs.declared.fault.Fault.{Fault}
use Rattle.rasta_pcap.specs.declared.time.CaptureTime.{CaptureTime}
use Rattle.rasta_pcap.specs.declared.time.FractionUnit.{FractionUnit}
use Rattle.rasta_pcap.specs.Capture as captures
use Rattle.rasta_pcap.specs.Capture.{FileCursor, Numbered, cursor_after, max_records, next, opening}
use Rattle.rasta_pcap.specs.Times.{time_of, unit_of}

-- a record: its number, from 1, when it was captured, and its captured bytes
pub record Captured : Type 0 where
  pub number : ℕ
  pub time : CaptureTime
  pub bytes : List ℕ

-- its number and its bytes
abbrev pub numbered : Captured → Numbered
numbered r = (r.number, r.bytes)

-- the record before which a cursor stands, in a file whose times have this unit
abbrev pub captured_at : FractionUnit → FileCursor → Numbered → Captured
captured_at unit c r = record { number = r.0; time = time_of c.order unit (take 16 c.rest); bytes = r.1 }

-- the records, and the fault that ends them, if one does
pub record Walk : Type 0 where
  pub records : List Captured
  pub fault : Option Fault

-- some records, and then a walk
abbrev pub walk_behind : List Captured → Walk → Walk
walk_behind done w = record { records = done ++ w.records; fault = w.fault }

-- none, up to this fault, or to the end
abbrev pub walk_to : Option Fault → Walk
walk_to fault = record { records = []; fault = fault }

abbrev pub walk_step : FractionUnit → FileCursor → Result (Option Numbered) Fault → Walk → Walk
walk_step unit c (Ok (Some r)) more = record { records = captured_at unit c r ∷ more.records; fault = more.fault }
walk_step unit c (Ok None) more = walk_to None
walk_step unit c (Err f) more = walk_to (Some f)

-- over at most so many records from the cursor on
unfoldable pub walk_from : ℕ → FractionUnit → FileCursor → Walk
walk_from zero unit c = walk_to None
walk_from (suc left) unit c = walk_step unit c (next c) (walk_from left unit (cursor_after c))

abbrev pub walk_opened : ℕ → List ℕ → Result FileCursor Fault → Walk
walk_opened most file (Ok c) = walk_from most (unit_of c.order (take 24 file)) c
walk_opened most file (Err f) = walk_to (Some f)

-- over at most so many records of a file
unfoldable pub walk_of : ℕ → List ℕ → Walk
walk_of most file = walk_opened most file (opening file)

-- the reading that has these records and this fault
abbrev pub reading_as : Walk → captures.Reading
reading_as w = record { records = map numbered w.records; fault = w.fault }

-- the records of a file, up to its end or to where no record can be read
abbrev pub captured_in : List ℕ → List Captured
captured_in file = (walk_of max_records file).records
