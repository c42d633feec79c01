-- Whoever goes along a walk over the records of a file, and how far it came.
use Rattle.std.specs.Prelude.{◌≡◌, ⊤, ◌⊎◌, ℕ, suc, ◌-◌, ◌<◌, List, [], ◌∷◌, ◌++◌, length, Bool, true, false, Option, Some, None}
use Rattle.rasta_pcap.specs.declared.fault.Fault.{Fault}
use Rattle.rasta_pcap.specs.declared.pcap.Endianness.{Endianness}
use Rattle.rasta_pcap.specs.declared.stream.Progress.TheVariants.{Reading}
use Rattle.rasta_pcap.specs.declared.stream.RecordReader.{RecordReader}
use Rattle.rasta_pcap.specs.declared.time.CaptureTime.{CaptureTime}
use Rattle.rasta_pcap.specs.declared.time.FractionUnit.{FractionUnit}
use Rattle.rasta_pcap.specs.Capture.{Numbered, cursor_at, max_records}
use Rattle.rasta_pcap.specs.Captured.{Captured, Walk, numbered, walk_behind, walk_from, walk_of}
use Rattle.rasta_pcap.specs.Stream.{count_in, order_in, progress_of, unit_in}

-- what was so of the records before the next one, which was captured at this time, is so of it too
abbrev pub SeesNext : {V : Type 0} → (V → List Captured → Type 0) → V → V → Numbered → Option CaptureTime → Type 0
SeesNext seen old new r time = (done : List Captured) (q : Captured) → numbered q ≡ r → r.0 ≡ suc (length done)
    → length done < max_records → time ≡ Some q.time → seen old done → seen new (done ++ q ∷ [])

-- a fault is that of the header, or of the record behind these
abbrev pub StandsBehind : Fault → List Captured → Type 0
StandsBehind fault done = ((fault.place ≡ 0) × (done ≡ [])) ⊎ (fault.place ≡ suc (length done))

-- where this was so of all records, the fault that ended them was taken in
abbrev pub SeesEnd : {V : Type 0} → (V → List Captured → Type 0) → (V → List Captured → Fault → Type 0) → V → V
    → Fault → Type 0
SeesEnd seen ended old new fault = (done : List Captured) → StandsBehind fault done → seen old done → ended new done fault

abbrev pub is_seen : {V : Type 0} → (V → List Captured → Type 0) → (V → List Captured → Fault → Type 0)
    → List Captured → Option Fault → V → Type 0
is_seen seen ended records None v = seen v records
is_seen seen ended records (Some fault) v = ended v records fault

-- all of a walk was seen, and the fault that ended it, if one did
abbrev pub IsSeen : {V : Type 0} → (V → List Captured → Type 0) → (V → List Captured → Fault → Type 0) → Walk → V
    → Type 0
IsSeen seen ended w v = is_seen seen ended w.records w.fault v

-- ---- on the way

-- behind these records, so many, a walk over at most so many has those that are left
pub record IsOnWay (w : Walk) (most : ℕ) (order : Endianness) (unit : FractionUnit) (count : ℕ) (rest : List ℕ)
    (done : List Captured) : Type 0 where
  pub counted : length done ≡ count
  pub left : walk_behind done (walk_from (most - count) unit (cursor_at order rest count)) ≡ w

-- the input is known, and a reader stands so on the way
pub record IsReaderOnWay (w : Walk) (most : ℕ) (records : RecordReader) (input : Option (List ℕ))
    (done : List Captured) : Type 0 where
  pub rest : List ℕ
  pub known : input ≡ Some rest
  pub on_way : IsOnWay w most (order_in records) (unit_in records) (count_in records) rest done

-- the header of a file was read, of whose records nothing was read yet
abbrev pub IsOpened : List ℕ → ℕ → RecordReader → Option (List ℕ) → Type 0
IsOpened file most records input = IsReaderOnWay (walk_of most file) most records input []

-- what was read so far was seen
pub record GoesOn {V : Type 0} (seen : V → List Captured → Type 0) (w : Walk) (most : ℕ) (records : RecordReader)
    (input : Option (List ℕ)) (v : V) : Type 0 where
  pub done : List Captured
  pub reader : IsReaderOnWay w most records input done
  pub read : seen v done

-- after one more record it goes on, and where there was none all was seen
abbrev pub StepsTo : {V : Type 0} → Bool → (V → List Captured → Type 0) → (V → List Captured → Fault → Type 0) → Walk
    → ℕ → RecordReader → Option (List ℕ) → V → Type 0
StepsTo true seen ended w most records input v = GoesOn seen w most records input v
StepsTo false seen ended w most records input v = IsSeen seen ended w v

-- the reading goes on after one more record
pub record ReadsOn (old new : RecordReader) : Type 0 where
  pub reading : progress_of new ≡ Reading
  pub count : count_in new ≡ suc (count_in old)

abbrev pub ReadsOnIf : Bool → RecordReader → RecordReader → Type 0
ReadsOnIf true old new = ReadsOn old new
ReadsOnIf false old new = ⊤
