-- A connection on its way through the records of a capture.
use Rattle.std.specs.Prelude.{◌≡◌, ⊤, ◌⊎◌, ◌<◌, ◌≤◌, ℕ, suc, Bool, true, false, List, [], ◌∷◌, ◌++◌, ◌||◌, length, map}
use Rattle.std.specs.Prelude.{slice_get, slice_index_or, slice_set, Option, Some}
use Rattle.std.specs.List.{Contains}
use Rattle.rasta_pdu.specs.Params.{Parameters}
use Rattle.seatmelon_audit.specs.Ways.{ways_between}
use Rattle.seatmelon_audit.specs.declared.ways.Way.{Way}
use Rattle.rasta_pcap.specs.declared.time.CaptureTime.{CaptureTime}
use Rattle.rasta_pcap.specs.Capture.{Numbered}
use Rattle.rasta_pcap.specs.Captured.{Captured, numbered}
use Rattle.rasta_check.specs.Capture.Building.{crossed_in}
use Rattle.seatmelon_middle.specs.Packets.{opens_first}
use Rattle.seatmelon_audit.specs.Records.{IsJudgedSo, IsStanding, crossed_by, is_any_held, is_held, span_of, stamps_held}
use Rattle.seatmelon_audit.specs.Shown.{IsShowing, packets_held}
use Rattle.seatmelon_audit.specs.declared.line.Line.{Line}
use Rattle.seatmelon_audit.specs.declared.line.Standing.{Standing}
use Rattle.seatmelon_audit.specs.declared.line.Standing.TheVariants.{OutOfMemory, Reading, Refused}

-- a fault names one of so many records
abbrev pub IsWithin : Standing → ℕ → Type 0
IsWithin Reading count = ⊤
IsWithin (Refused refusal) count = refusal.fault.place ≤ count
IsWithin OutOfMemory count = ⊤

-- it stands as these records say, and where it is refused all its packets were taken in
pub record Stands (records : List Captured) (l : Line) : Type 0 where
  pub standing : IsStanding l.standing (crossed_by l.params records) records l.params
      (crossed_in l.builder) l.packets.items
  pub within : IsWithin l.standing (length records)
  pub shown : IsShowing l.standing l.params (crossed_in l.builder) (packets_held l.params records) l.shown l.course

-- a connection after these records
pub record IsLine (records : List Captured) (l : Line) : Type 0 where
  pub stands : Stands records l
  pub opens : l.opens ≡ opens_first l.params (packets_held l.params records)
  pub span : l.span ≡ span_of (stamps_held l.params records)
  pub taken : l.taken ≤ length records

abbrev pub IsJudged : Line → Line → Numbered → Option CaptureTime → Type 0
IsJudged old new r time =
    IsJudgedSo new.standing old.params (crossed_in old.builder) (crossed_in new.builder)
    old.packets.items new.packets.items r time

-- what stood as the records before the next one say, which was captured at this time, stands as it says too
abbrev pub Passes : Line → Line → Numbered → Option CaptureTime → Type 0
Passes old new r time = (records : List Captured) (q : Captured) → numbered q ≡ r → r.0 ≡ suc (length records)
    → time ≡ Some q.time → Stands records old → Stands (records ++ q ∷ []) new

-- what was so of the records before the next one, which was captured at this time, is so of it too
abbrev pub TakesIn : Line → Line → Numbered → Option CaptureTime → Type 0
TakesIn old new r time = (records : List Captured) (q : Captured) → numbered q ≡ r → r.0 ≡ suc (length records)
    → time ≡ Some q.time → IsLine records old → IsLine (records ++ q ∷ []) new

-- ---- all connections

-- a record is taken in once
pub record IsStep (old new : Line) (r : Numbered) (time : Option CaptureTime) : Type 0 where
  pub params : new.params ≡ old.params
  pub taken : new.taken ≡ r.0
  pub again : old.taken ≡ r.0 → new ≡ old
  pub takes : (old.taken ≡ r.0 → ⊥) → TakesIn old new r time

-- the connection at this place becomes another one, and the others stay
pub record IsChangedAt (Changes : Line → Line → Type 0) (place : ℕ) (old new : List Line) : Type 0 where
  pub past : length old ≤ place → new ≡ old
  pub here : (d : Line) → place < length old
      → (m : Line) × (new ≡ slice_set old place m) × Changes (slice_index_or old place d) m

-- the connection at this place takes the record in, and no other one
abbrev pub IsStepAt : ℕ → List Line → List Line → Numbered → Option CaptureTime → Type 0
IsStepAt place old new r time = IsChangedAt (λ (a b : Line). IsStep a b r time) place old new

-- whether the connection holds the record, answered where it is taken in
pub record HeldOnce (old : Line) (r : Numbered) (held : Bool) : Type 0 where
  pub again : old.taken ≡ r.0 → held ≡ false
  pub first : (old.taken ≡ r.0 → ⊥) → held ≡ is_held old.params r

pub record HeldAt (place : ℕ) (old : List Line) (r : Numbered) (held : Bool) : Type 0 where
  pub past : length old ≤ place → held ≡ false
  pub here : (d : Line) → place < length old → HeldOnce (slice_index_or old place d) r held

abbrev pub params_of : List Line → List Parameters
params_of lines = map (λ (l : Line). l.params) lines

-- each connection stands as these records say
abbrev pub AreLines : List Captured → List Line → Type 0
AreLines records lines = (i : ℕ) (d : Line) → i < length lines → IsLine records (slice_index_or lines i d)

-- what was so of the records before the next one is so of it too
abbrev pub AllTakeIn : List Line → List Line → Numbered → Option CaptureTime → Type 0
AllTakeIn old new r time = (records : List Captured) (q : Captured) → numbered q ≡ r → r.0 ≡ suc (length records)
    → time ≡ Some q.time → AreLines records old → AreLines (records ++ q ∷ []) new

-- ---- while the connections take in a record

-- a connection that has taken it in, or not yet
pub record IsBetween (records : List Captured) (q : Captured) (l : Line) : Type 0 where
  pub after : l.taken ≡ q.number → IsLine (records ++ q ∷ []) l
  pub before : (l.taken ≡ q.number → ⊥) → IsLine records l

abbrev pub AreBetween : List Captured → Captured → List Line → Type 0
AreBetween records q lines = (i : ℕ) (d : Line) → i < length lines → IsBetween records q (slice_index_or lines i d)

abbrev pub AllBetween : List Line → List Line → Numbered → Option CaptureTime → Type 0
AllBetween old new r time = (records : List Captured) (q : Captured) → numbered q ≡ r → r.0 ≡ suc (length records)
    → time ≡ Some q.time → AreBetween records q old → AreBetween records q new

-- some connection holds the record; or none does of those that have taken it in since
abbrev pub TellsHeld : Bool → List Line → List Line → Numbered → Type 0
TellsHeld true first new r = (i : ℕ) × (p : Parameters) × (slice_get (params_of first) i ≡ Some p)
    × (is_held p r ≡ true)
TellsHeld false first new r = (i : ℕ) (d : Line) → i < length first → (slice_index_or new i d).taken ≡ r.0
    → ((slice_index_or first i d).taken ≡ r.0) ⊎ (is_held (slice_index_or first i d).params r ≡ false)

-- whether one of these connections holds the next record
abbrev pub TellsAny : Bool → List Line → Numbered → Type 0
TellsAny held lines r = (records : List Captured) → r.0 ≡ suc (length records) → AreLines records lines
    → held ≡ is_any_held (params_of lines) r

-- the connections of these ways have taken in the record of this number
abbrev pub HaveTaken : List Way → ℕ → List Line → Type 0
HaveTaken ways number lines = (w : Way) (d : Line) → Contains ways w → w.line < length lines
    → (slice_index_or lines w.line d).taken ≡ number

-- where the connections of some ways between these hosts have, that of one way more has too, if it is between them
abbrev pub TakesToo : ℕ → Way → ℕ → List Line → List Line → Type 0
TakesToo hosts way number old new = (ways : List Way) → HaveTaken (ways_between hosts ways) number old
    → HaveTaken (ways_between hosts (ways ++ way ∷ [])) number new

-- what was told of the connections before is told of those after it, with this answer
abbrev pub TellsToo : Bool → List Line → List Line → Numbered → Type 0
TellsToo answer old new r = (first : List Line) (held : Bool) → params_of old ≡ params_of first
    → TellsHeld held first old r → TellsHeld (held || answer) first new r
