-- Which datagrams of a capture weren't captured whole.
use Rattle.std.specs.Prelude.{ℕ, List, Option, map}
use Rattle.rasta_pcap.specs.declared.pcap.Endianness.{Endianness}
use Rattle.rasta_pcap.specs.Capture.{RecordEntry}
use Rattle.rasta_pcap.specs.Extent.{HasRead}
use Rattle.seatmelon_survey.specs.CutNotes.{CutNotes}
use Rattle.seatmelon_survey.specs.Cuts.{AreCounted, cuts_in}

abbrev pub frames_of : List RecordEntry → List (List ℕ)
frames_of entries = map (λ (e : RecordEntry). e.bytes) entries

-- the header of a capture and so many records were read, and what wasn't captured whole in these records is counted
pub record HasCounted (order : Endianness) (records : ℕ) (old new : Option (List ℕ)) (cuts : CutNotes) : Type 0 where
  pub read : HasRead order records old new
  pub counted : AreCounted (cuts_in (frames_of read.entries)) cuts

-- the same of the records that were read first, whatever was read behind them
pub record CountsCuts (records : ℕ) (old : Option (List ℕ)) (cuts : CutNotes) : Type 0 where
  pub order : Endianness
  pub new : Option (List ℕ)
  pub counted : HasCounted order records old new cuts
