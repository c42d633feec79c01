-- The reading of a known file on its way.
use Rattle.std.specs.Prelude.{◌≡◌, ℕ, suc, ◌<◌, ◌≤◌, List, [], ◌∷◌, ◌++◌, length, map, Bool, Option, None}
use Rattle.std.specs.Prelude.{Some, Result, Ok}
use Rattle.std.specs.Option.{ForSome}
use Rattle.rasta_pcap.specs.declared.fault.Fault.{Fault}
use Rattle.rasta_pcap.specs.declared.time.CaptureTime.{CaptureTime}
use Rattle.rasta_pcap.specs.Capture.{Numbered}
use Rattle.rasta_pcap.specs.Captured.{Captured, captured_in, numbered}
use Rattle.rasta_pcap.specs.Walk.{StandsBehind}
use Rattle.rasta_pdu.specs.Params.{Parameters}
use Rattle.rasta_check.specs.Capture.Crossing.{Crossing, nothing_crossed}
use Rattle.rasta_check.specs.Capture.Reading.{after_records}
use Rattle.seatmelon_reading.specs.Noted.{AreNotes, numbered_seen, seen_inside}
use Rattle.rasta_check.specs.Capture.Building.{crossed_in}
use Rattle.seatmelon_reading.specs.Reading.{HasCrossed, IsSameBut, after_end, crossing_without, judged_of, standing_in}
use Rattle.seatmelon_reading.specs.Tapes.{NumberedPacket, taped_in}
use Rattle.seatmelon_reading.specs.Told.{AreLower, IsTrueOf}
use Rattle.seatmelon_reading.specs.declared.pass.Pass.{Pass}
use Rattle.seatmelon_reading.specs.declared.tape.Tape.{Tape}

-- ---- what a refusal tells, record by record

abbrev pub TellsTrue : Pass → List Captured → Type 0
TellsTrue pass records = ForSome pass.refusal (IsTrueOf pass.notes.zero_is_no_time pass.params pass.without.now records)

-- these records, all of them before this place, were passed
pub record HasPassed (pass : Pass) (place : ℕ) (records : List Captured) : Type 0 where
  pub noted : AreNotes pass.params pass.without.now records pass.notes
  pub lower : AreLower place records
  pub stored : HasCrossed pass.params pass.without.now records (crossed_in pass.builder) pass.refusal
  pub refused : ForSome pass.refusal (λ r. r.fault.place < place)
  pub told : TellsTrue pass records

-- what was true of the records so far is true of one more, which was captured at this time
abbrev pub TellsNext : Pass → Pass → Numbered → Option CaptureTime → Type 0
TellsNext old new r time = (records : List Captured) (q : Captured) → HasPassed old r.0 records
    → r.0 ≡ suc (length records) → numbered q ≡ r → time ≡ Some q.time → TellsTrue new (records ++ q ∷ [])

-- what was true of the records so far, all of them before this place, still is
abbrev pub TellsStill : Pass → Pass → ℕ → Type 0
TellsStill old new place = (records : List Captured) → HasPassed old place records → TellsTrue new records

-- ---- what is behind what crossed, record by record

-- the packets of the connection in these records: first as many as crossed, and then those of the tape
pub record AreUnjudged (p : Parameters) (without : List ℕ) (records : List Captured) (k : Crossing)
    (t : Tape) : Type 0 where
  pub first : List NumberedPacket
  pub counted : length first ≡ length k.packets
  pub whole : map numbered_seen (seen_inside p without records) ≡ first ++ taped_in t

-- those of the records so far and of one more
abbrev pub KeepsNext : Pass → Pass → Numbered → Type 0
KeepsNext old new r = (records : List Captured) (q : Captured)
    → HasCrossed old.params old.without.now records (crossed_in old.builder) old.refusal
    → AreUnjudged old.params old.without.now records (crossed_in old.builder) old.unjudged → numbered q ≡ r
    → AreUnjudged old.params old.without.now (records ++ q ∷ []) (crossed_in new.builder) new.unjudged

-- those of the records so far still are
abbrev pub KeepsStill : Pass → Pass → Type 0
KeepsStill old new = (records : List Captured)
    → AreUnjudged old.params old.without.now records (crossed_in old.builder) old.unjudged
    → AreUnjudged old.params old.without.now records (crossed_in new.builder) new.unjudged

-- ---- a whole file

-- what is to be read: whether a time of 0 is none, by these parameters, without these records, what crosses, and what
-- was captured
pub record Whole : Type 0 where
  pub zero : Bool
  pub params : Parameters
  pub without : List ℕ
  pub crossed : Result Crossing Fault
  pub captured : List Captured

abbrev pub whole_of : Bool → Parameters → List ℕ → List ℕ → Whole
whole_of zero p without file = record {
  zero = zero;
  params = p;
  without = without;
  crossed = crossing_without p without file;
  captured = captured_in file;
}

-- at the end
pub record IsThrough (w : Whole) (pass : Pass) : Type 0 where
  pub zero : pass.notes.zero_is_no_time ≡ w.zero
  pub standing : standing_in pass ≡ w.crossed
  pub noted : AreNotes w.params w.without w.captured pass.notes
  pub told : ForSome pass.refusal (IsTrueOf w.zero w.params w.without w.captured)
  pub stored : HasCrossed w.params w.without w.captured (crossed_in pass.builder) pass.refusal
  pub unjudged : AreUnjudged w.params w.without w.captured (crossed_in pass.builder) pass.unjudged

-- nothing was read
pub record IsBegun (pass : Pass) : Type 0 where
  pub standing : standing_in pass ≡ Ok (nothing_crossed pass.params)
  pub noted : AreNotes pass.params pass.without.now [] pass.notes
  pub unjudged : taped_in pass.unjudged ≡ []

-- a file was passed
abbrev pub IsPassed : List ℕ → Pass → Pass → Type 0
IsPassed file old new = IsBegun old → IsThrough (whole_of old.notes.zero_is_no_time old.params old.without.now file) new

-- ---- along the records

-- what crossed by these records, up to the last one of the window, or the first fault
abbrev pub crossed_by : Parameters → List ℕ → List Captured → Result Crossing Fault
crossed_by p without records = after_records (nothing_crossed p) (judged_of p without records) None

-- these records were passed
pub record HasSeen (pass : Pass) (done : List Captured) : Type 0 where
  pub standing : standing_in pass ≡ crossed_by pass.params pass.without.now done
  pub noted : AreNotes pass.params pass.without.now done pass.notes
  pub told : TellsTrue pass done
  pub lower : AreLower (suc (length done)) done
  pub stored : HasCrossed pass.params pass.without.now done (crossed_in pass.builder) pass.refusal
  pub unjudged : AreUnjudged pass.params pass.without.now done (crossed_in pass.builder) pass.unjudged
  pub refused : ForSome pass.refusal (λ r. r.fault.place ≤ length done)

-- these records were passed, and then the fault that ended them was taken in
pub record HasEnded (new : Pass) (done : List Captured) (fault : Fault) : Type 0 where
  pub old : Pass
  pub seen : HasSeen old done
  pub behind : StandsBehind fault done
  pub standing : standing_in new ≡ after_end old.params (standing_in old) fault
  pub kept : IsSameBut old new
  pub still : TellsStill old new fault.place
  pub keeps : KeepsStill old new
