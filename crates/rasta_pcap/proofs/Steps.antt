-- What the next record says of a cursor, and one step of a reading for each outcome.
use Rattle.std.proofs.Common.{◌≡◌, ℕ, zero, suc, ◌+◌, ◌<◌, ◌≤◌, List, [], length, Option, Some, None, Result, Ok, Err, Bool, true, false, nat_lt, nat_le, nat_eq, cond, refl, ap, arith}
use Rattle.std.proofs.lemmas.List.{nil_from_length}
use Rattle.std.proofs.lemmas.Bool.{ltb-false, leb-false, eqb-true}
use Rattle.std.proofs.lemmas.Bool.Decides.{nat_tests}
use Rattle.rasta_pcap.specs.declared.fault.Fault.{Fault}
use Rattle.rasta_pcap.specs.Fault.{fault_at, cut_record, too_many, record_too_long}
use Rattle.rasta_pcap.specs.Capture.{FileCursor, Numbered, opening, next, cursor_after, next_bytes, next_length, max_records, max_captured, read_step, reading, reading_opened, reading_of, with_record}

-- a first record, and then the reading after it
pub reading-record : (left : ℕ) (c : FileCursor) (r : Numbered) → next c ≡ Ok (Some r)
    → reading (suc left) c ≡ with_record r (reading left (cursor_after c))
unfolding reading
reading-record left c r h = ap (λ o. read_step o (reading left (cursor_after c))) h

-- nothing at the exact end
pub reading-end : (left : ℕ) (c : FileCursor) → next c ≡ Ok None → reading (suc left) c ≡ record { records = []; fault = None }
unfolding reading
reading-end left c h = ap (λ o. read_step o (reading left (cursor_after c))) h

-- the first fault ends it
pub reading-fault : (left : ℕ) (c : FileCursor) (f : Fault) → next c ≡ Err f
    → reading (suc left) c ≡ record { records = []; fault = Some f }
unfolding reading
reading-fault left c f h = ap (λ o. read_step o (reading left (cursor_after c))) h

-- nothing more where no record may be read
pub reading-none_left : (c : FileCursor) → reading zero c ≡ record { records = []; fault = None }
unfolding reading
reading-none_left c = refl

-- the reading of a file that was opened goes on from its cursor
pub reading_of-opened : (limit : ℕ) (file : List ℕ) (c : FileCursor) → opening file ≡ Ok c → reading_of limit file ≡ reading limit c
unfolding reading_of
reading_of-opened limit file c h = ap (reading_opened limit) h

-- the fault of a header is that of the reading
pub reading_of-refused : (limit : ℕ) (file : List ℕ) (f : Fault) → opening file ≡ Err f
    → reading_of limit file ≡ record { records = []; fault = Some f }
unfolding reading_of
reading_of-refused limit file f h = ap (reading_opened limit) h

abbrev pub Outcome : Type 0
Outcome = Result (Option Numbered) Fault

-- the outcome of the five tests, in their order
abbrev pub tested : Bool → Bool → Bool → Bool → Bool → ℕ → Numbered → Outcome
tested ended full short long cut place r =
    cond ended (Ok None)
    (cond full (Err (fault_at too_many place))
    (cond short (Err (fault_at cut_record place))
    (cond long (Err (fault_at record_too_long place))
    (cond cut (Err (fault_at cut_record place)) (Ok (Some r))))))

-- no test was met, and the record is the next
record IsPassed (ended full short long cut : Bool) (r s : Numbered) : Type 0 where
  is : s ≡ r
  some : ended ≡ false
  room : full ≡ false
  header : short ≡ false
  bounded : long ≡ false
  whole : cut ≡ false

tested-record : (ended full short long cut : Bool) (place : ℕ) (r s : Numbered) → tested ended full short long cut place r ≡ Ok (Some s)
    → IsPassed ended full short long cut r s
tested-record true full short long cut place r s h = absurd (cc)
tested-record false true short long cut place r s h = absurd (cc)
tested-record false false true long cut place r s h = absurd (cc)
tested-record false false false true cut place r s h = absurd (cc)
tested-record false false false false true place r s h = absurd (cc)
tested-record false false false false false place r s h =
    record { is = cc; some = refl; room = refl; header = refl; bounded = refl; whole = refl }

tested-end : (ended full short long cut : Bool) (place : ℕ) (r : Numbered) → tested ended full short long cut place r ≡ Ok None
    → ended ≡ true
tested-end true full short long cut place r h = refl
tested-end false true short long cut place r h = absurd (cc)
tested-end false false true long cut place r h = absurd (cc)
tested-end false false false true cut place r h = absurd (cc)
tested-end false false false false true place r h = absurd (cc)
tested-end false false false false false place r h = absurd (cc)

abbrev of_fault : Fault → Outcome
of_fault f = Err f

same_fault : (f g : Fault) (place : ℕ) → g ≡ fault_at g.number place → of_fault g ≡ of_fault f → f ≡ fault_at f.number place
same_fault f g place is h = let e : g ≡ f = cc in rw (← e) is

tested-fault : (ended full short long cut : Bool) (place : ℕ) (r : Numbered) (f : Fault) → tested ended full short long cut place r ≡ Err f
    → f ≡ fault_at f.number place
tested-fault true full short long cut place r f h = absurd (cc)
tested-fault false true short long cut place r f h = same_fault f (fault_at too_many place) place refl h
tested-fault false false true long cut place r f h = same_fault f (fault_at cut_record place) place refl h
tested-fault false false false true cut place r f h = same_fault f (fault_at record_too_long place) place refl h
tested-fault false false false false true place r f h = same_fault f (fault_at cut_record place) place refl h
tested-fault false false false false false place r f h = absurd (cc)

-- what a next record says of the cursor
pub record IsNextEntry (c : FileCursor) (r : Numbered) : Type 0 where
  pub is : r ≡ (c.count + 1, next_bytes c)
  pub room : c.count < max_records
  pub header : 16 ≤ length c.rest
  pub bounded : next_length c ≤ max_captured
  pub whole : 16 + next_length c ≤ length c.rest

pub next-is_next_entry : (c : FileCursor) (r : Numbered) → next c ≡ Ok (Some r) → IsNextEntry c r
next-is_next_entry c r h =
    let size = length c.rest in
    let captured = next_length c in
    let passed = tested-record (nat_eq size 0) (nat_le max_records c.count) (nat_lt size 16) (nat_lt max_captured captured)
    (nat_lt size (16 + captured)) (c.count + 1) (c.count + 1, next_bytes c) r h in record {
      is = passed.is;
      room = leb-false max_records c.count passed.room;
      header = ltb-false size 16 passed.header;
      bounded = ltb-false max_captured captured passed.bounded;
      whole = ltb-false size (16 + captured) passed.whole;
    }

tested-found : (size count captured place : ℕ) (r : Numbered) → count < max_records → captured ≤ max_captured → 16 + captured ≤ size
    → tested (nat_eq size 0) (nat_le max_records count) (nat_lt size 16) (nat_lt max_captured captured) (nat_lt size (16 + captured)) place r
    ≡ Ok (Some r)
tested-found size count captured place r room bounded whole = grind (arith, nat_tests)

-- a whole record that comes first is the next
pub next-found : (c : FileCursor) → c.count < max_records → next_length c ≤ max_captured → 16 + next_length c ≤ length c.rest
    → next c ≡ Ok (Some (c.count + 1, next_bytes c))
next-found c room bounded whole =
    tested-found (length c.rest) c.count (next_length c) (c.count + 1) (c.count + 1, next_bytes c) room bounded whole

-- the end is there where no byte is left
pub next-end : (c : FileCursor) → next c ≡ Ok None → c.rest ≡ []
next-end c h =
    let size = length c.rest in
    let captured = next_length c in
    nil_from_length c.rest
    (eqb-true size 0
    (tested-end (nat_eq size 0) (nat_le max_records c.count) (nat_lt size 16) (nat_lt max_captured captured)
    (nat_lt size (16 + captured)) (c.count + 1) (c.count + 1, next_bytes c) h))

pub next-nil : (c : FileCursor) → c.rest ≡ [] → next c ≡ Ok None
next-nil c h =
    ap (λ (rest : List ℕ). next (record { order = c.order; rest = rest; count = c.count })) h

-- a record's fault names its number, and no end
pub next-fault_place : (c : FileCursor) (f : Fault) → next c ≡ Err f → f ≡ fault_at f.number (c.count + 1)
next-fault_place c f h =
    let size = length c.rest in
    let captured = next_length c in
    tested-fault (nat_eq size 0) (nat_le max_records c.count) (nat_lt size 16) (nat_lt max_captured captured)
    (nat_lt size (16 + captured)) (c.count + 1) (c.count + 1, next_bytes c) f h
