-- A capture, read once for all connections.
use Rattle.std.specs.Prelude.{◌≡◌, ℕ, List, length, None, Some}
use Rattle.rasta_pcap.specs.declared.fault.Fault.{Fault}
use Rattle.rasta_pcap.specs.Capture.{max_records, reading_of}
use Rattle.rasta_pcap.specs.Captured.{Captured, captured_in}
use Rattle.rasta_pcap.specs.Walk.{StandsBehind}
use Rattle.rasta_pdu.specs.Params.{Parameters}
use Rattle.seatmelon_audit.specs.All.{IsKnown, lines_in}
use Rattle.seatmelon_audit.specs.Ends.{AllEnd}
use Rattle.seatmelon_audit.specs.Files.{AreThrough}
use Rattle.seatmelon_audit.specs.Lines.{AreLines, params_of}
use Rattle.seatmelon_audit.specs.Records.{others_in}
use Rattle.seatmelon_audit.specs.declared.reading.Reading.{Reading}

-- the parameters of the connections
abbrev pub params_in : Reading → List Parameters
params_in r = params_of (lines_in r.lines)

-- this was read of a file, for connections with these parameters
pub record IsReading (recorded : List Parameters) (file : List ℕ) (r : Reading) : Type 0 where
  pub lines : AreThrough file (lines_in r.lines)
  pub params : params_of (lines_in r.lines) ≡ recorded
  pub count : r.records ≡ length (captured_in file)
  pub others : r.others ≡ length (others_in recorded (captured_in file))
  pub fault : r.fault ≡ (reading_of max_records file).fault

-- ---- on the way

-- these records were read
pub record HasRead (recorded : List Parameters) (done : List Captured) (r : Reading) : Type 0 where
  pub lines : AreLines done (lines_in r.lines)
  pub params : params_of (lines_in r.lines) ≡ recorded
  pub known : IsKnown r.lines
  pub count : r.records ≡ length done
  pub others : r.others ≡ length (others_in recorded done)
  pub none : r.fault ≡ None

-- the connections take in a fault, which is kept
pub record EndsReading (fault : Fault) (old new : Reading) : Type 0 where
  pub lines : AllEnd (lines_in old.lines) (lines_in new.lines) fault
  pub params : params_of (lines_in new.lines) ≡ params_of (lines_in old.lines)
  pub count : new.records ≡ old.records
  pub others : new.others ≡ old.others
  pub kept : new.fault ≡ Some fault

-- these records were read, and then this fault, which ended them
pub record HasEnded (new : Reading) (done : List Captured) (fault : Fault) : Type 0 where
  pub old : Reading
  pub read : HasRead (params_in old) done old
  pub behind : StandsBehind fault done
  pub ends : EndsReading fault old new
