-- A connection where the reading of a file ends in a fault.
use Rattle.std.specs.Prelude.{◌≡◌, ◌⊎◌, ◌<◌, ◌≤◌, ℕ, suc, List, [], length, nat_lt, slice_index_or, if◌then◌else◌}
use Rattle.std.specs.Prelude.{Option, None, Some, Result}
use Rattle.rasta_pcap.specs.declared.fault.Fault.{Fault}
use Rattle.rasta_pcap.specs.Captured.{Captured}
use Rattle.rasta_pdu.specs.Params.{Parameters}
use Rattle.rasta_check.specs.Capture.Building.{crossed_in}
use Rattle.rasta_check.specs.Capture.Crossing.{Crossing}
use Rattle.rasta_check.specs.Capture.Reading.{then_crossing, at_end}
use Rattle.seatmelon_middle.specs.Packets.{opens_first}
use Rattle.seatmelon_audit.specs.Lines.{AreLines, IsChangedAt, IsLine, params_of}
use Rattle.seatmelon_audit.specs.Records.{IsStanding, crossed_by, span_of, stamps_held}
use Rattle.seatmelon_audit.specs.Shown.{IsShowing, packets_held}
use Rattle.seatmelon_audit.specs.declared.line.Line.{Line}

-- a fault of the file's header, or of what stands behind these records
abbrev pub IsFaultAfter : List Captured → Fault → Type 0
IsFaultAfter records fault = ((fault.place ≡ 0) × (records ≡ [])) ⊎ (fault.place ≡ suc (length records))

-- a fault behind these records, if it stands before the end of the window
abbrev pub fault_behind : Parameters → List Captured → Option Fault → Option Fault
fault_behind p records fault = if nat_lt (length records) p.last_record then fault else None

-- what crossed by these records and the fault that ended them
abbrev pub crossed_to_end : Parameters → List Captured → Option Fault → Result Crossing Fault
crossed_to_end p records fault =
    then_crossing (crossed_by p records) (λ (k : Crossing). at_end k (fault_behind p records fault))

-- a connection after these records and the fault that ended them
pub record IsEnded (records : List Captured) (fault : Option Fault) (l : Line) : Type 0 where
  pub standing : IsStanding l.standing (crossed_to_end l.params records fault) records l.params
      (crossed_in l.builder) l.packets.items
  pub opens : l.opens ≡ opens_first l.params (packets_held l.params records)
  pub span : l.span ≡ span_of (stamps_held l.params records)
  pub shown : IsShowing l.standing l.params (crossed_in l.builder) (packets_held l.params records) l.shown l.course

-- what stood as the records say stands as the records and the fault say
abbrev pub EndsBy : Line → Line → Fault → Type 0
EndsBy old new fault = (records : List Captured) → IsFaultAfter records fault → IsLine records old
    → IsEnded records (Some fault) new

-- ---- all connections

-- each connection stands as the records and the fault say
abbrev pub AreEnded : List Captured → Fault → List Line → Type 0
AreEnded records fault lines = (i : ℕ) (d : Line) → i < length lines
    → IsEnded records (Some fault) (slice_index_or lines i d)

-- what stood as the records say stands as the records and the fault say
abbrev pub AllEnd : List Line → List Line → Fault → Type 0
AllEnd old new fault = (records : List Captured) → IsFaultAfter records fault → AreLines records old
    → AreEnded records fault new

-- ---- while the connections take in the fault

pub record IsEnd (fault : Fault) (old new : Line) : Type 0 where
  pub ends : EndsBy old new fault
  pub params : new.params ≡ old.params

-- the connection at this place takes it in, and no other one
abbrev pub IsEndAt : ℕ → List Line → List Line → Fault → Type 0
IsEndAt place old new fault = IsChangedAt (IsEnd fault) place old new

-- those below this place have taken it in, and the others not yet
pub record AreEndedBelow (place : ℕ) (old new : List Line) (fault : Fault) : Type 0 where
  pub params : params_of new ≡ params_of old
  pub ended : (i : ℕ) (d : Line) → i < place → i < length old
      → EndsBy (slice_index_or old i d) (slice_index_or new i d) fault
  pub same : (i : ℕ) (d : Line) → place ≤ i → slice_index_or new i d ≡ slice_index_or old i d
