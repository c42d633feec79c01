-- The steps of a walk over the records of a known file.
use Rattle.std.proofs.Common.{◌≡◌, ◌≢◌, ◌∙◌, ◌⊎◌, ◌↔◌, IsTrue, Bool, true, false, inl, inr, ℕ, zero, suc, ◌+◌, ◌-◌, ◌<◌, ◌≤◌, List, [], ◌∷◌, ◌++◌, append_assoc, append-nil, length, take, Option, None, Some, Result, Ok, Err, OnOk, IfSome, ap, refl, subst, sym, add-one, arith}
use Rattle.std.proofs.lemmas.List.{length_push}
use Rattle.rasta_pcap.specs.declared.fault.Fault.{Fault}
use Rattle.rasta_pcap.specs.declared.pcap.Endianness.{Endianness}
use Rattle.rasta_pcap.specs.declared.stream.RecordReader.{RecordReader}
use Rattle.rasta_pcap.specs.declared.time.CaptureTime.{CaptureTime}
use Rattle.rasta_pcap.specs.declared.time.FractionUnit.{FractionUnit}
use Rattle.rasta_pcap.specs.Capture.{FileCursor, Numbered, cursor_after, cursor_at, max_records, next, opening, read_step, reading, reading_of, reading_opened, with_record}
use Rattle.rasta_pcap.specs.Capture as captures
use Rattle.rasta_pcap.specs.Captured.{Captured, Walk, captured_at, reading_as, walk_behind, walk_from, walk_of, walk_opened, walk_step, walk_to}
use Rattle.rasta_pcap.specs.Fault.{fault_at, no_memory, read_failed}
use Rattle.rasta_pcap.specs.Stream.{FailsWithin, LacksMemory, MeetsEnd, Opens, ReadsRecord, RefusesHeader, RefusesRecord, count_in, order_in, room_in, unit_in}
use Rattle.rasta_pcap.specs.Times.{TellsTime, TellsUnit, unit_of}
use Rattle.rasta_pcap.specs.Walk.{GoesOn, IsOnWay, IsOpened, IsSeen, SeesEnd, SeesNext, is_seen}
use Rattle.rasta_pcap.proofs.Headers.{opening-fault_place}
use Rattle.rasta_pcap.proofs.KnownFiles.{NextOf, known_end, known_header, known_header_refusal, known_record, known_refusal}
use Rattle.rasta_pcap.proofs.Steps.{Outcome, next-fault_place, next-is_next_entry}

-- ---- what a walk has from a cursor on

walk_from-record : (left : ℕ) (unit : FractionUnit) (c : FileCursor) (r : Numbered) → next c ≡ Ok (Some r)
    → walk_from (suc left) unit c ≡ walk_behind (captured_at unit c r ∷ []) (walk_from left unit (cursor_after c))
unfolding walk_from
walk_from-record left unit c r is = ap (λ o. walk_step unit c o (walk_from left unit (cursor_after c))) is

walk_from-end : (left : ℕ) (unit : FractionUnit) (c : FileCursor) → next c ≡ Ok None → walk_from left unit c ≡ walk_to None
unfolding walk_from
walk_from-end zero unit c is = refl
walk_from-end (suc left) unit c is = ap (λ o. walk_step unit c o (walk_from left unit (cursor_after c))) is

walk_from-fault : (left : ℕ) (unit : FractionUnit) (c : FileCursor) (f : Fault) → next c ≡ Err f → walk_from (suc left) unit c ≡ walk_to (Some f)
unfolding walk_from
walk_from-fault left unit c f is = ap (λ o. walk_step unit c o (walk_from left unit (cursor_after c))) is

walk_from-none_left : (unit : FractionUnit) (c : FileCursor) → walk_from zero unit c ≡ walk_to None
unfolding walk_from
walk_from-none_left unit c = refl

walk_of-opened : (most : ℕ) (file : List ℕ) (c : FileCursor) → opening file ≡ Ok c → walk_of most file ≡ walk_from most (unit_of c.order (take 24 file)) c
unfolding walk_of
walk_of-opened most file c is = ap (walk_opened most file) is

walk_of-refused : (most : ℕ) (file : List ℕ) (f : Fault) → opening file ≡ Err f → walk_of most file ≡ walk_to (Some f)
unfolding walk_of
walk_of-refused most file f is = ap (walk_opened most file) is

-- ---- a walk has what a reading has

step-reading : (unit : FractionUnit) (c : FileCursor) (o : Outcome) (w : Walk) (g : captures.Reading) → reading_as w ≡ g → reading_as (walk_step unit c o w) ≡ read_step o g
step-reading unit c (Ok (Some r)) w g same = ap (with_record r) same
step-reading unit c (Ok None) w g same = refl
step-reading unit c (Err f) w g same = refl

walk_from-reading : (left : ℕ) (unit : FractionUnit) (c : FileCursor) → reading_as (walk_from left unit c) ≡ reading left c
unfolding walk_from reading
walk_from-reading zero unit c = refl
walk_from-reading (suc left) unit c = step-reading unit c (next c) (walk_from left unit (cursor_after c)) (reading left (cursor_after c)) (walk_from-reading left unit (cursor_after c))

opened-reading : (most : ℕ) (file : List ℕ) (o : Result FileCursor Fault) → reading_as (walk_opened most file o) ≡ reading_opened most o
opened-reading most file (Ok c) = walk_from-reading most (unit_of c.order (take 24 file)) c
opened-reading most file (Err f) = refl

pub walk-is_reading : (most : ℕ) (file : List ℕ) → reading_as (walk_of most file) ≡ reading_of most file
unfolding walk_of reading_of
walk-is_reading most file = opened-reading most file (opening file)

-- ---- the records so far, and those that are left

abbrev walk_made : List Captured → Option Fault → Walk
walk_made records fault = record { records = records; fault = fault }

behind_more : (done : List Captured) (q : Captured) (w : Walk) → walk_behind (done ++ q ∷ []) w ≡ walk_behind done (walk_behind (q ∷ []) w)
behind_more done q w = ap (λ l. walk_made l w.fault) (append_assoc done (q ∷ []) w.records)

behind_none : (done : List Captured) (fault : Option Fault) → walk_behind done (walk_to fault) ≡ walk_made done fault
behind_none done fault = ap (λ l. walk_made l fault) (append-nil done)

module _ (w : Walk) (most : ℕ) (order : Endianness) (unit : FractionUnit) (count : ℕ) (rest : List ℕ) (done : List Captured) (on : IsOnWay w most order unit count rest done) where
  one_read : (r : Numbered) (time : Option CaptureTime) (input : Option (List ℕ)) (h : NextOf order unit count r time rest input) → count < most
      → IsOnWay w most order unit r.0 h.rest (done ++ captured_at unit (cursor_at order rest count) r ∷ [])
  one_read r time input h room =
      let c = cursor_at order rest count in
      let one : r.0 ≡ count + 1 = ap (λ (n : Numbered). n.0) (next-is_next_entry c r h.is).is in
      let q = captured_at unit c r in
      let less : suc (most - r.0) ≡ most - count = omega (arith, one, room) in record {
        counted = length_push done q ∙ ap (λ n. n + 1) on.counted ∙ sym one;
        left = behind_more done q (walk_from (most - r.0) unit (cursor_at order h.rest r.0))
            ∙ ap (λ cursor. walk_behind done (walk_behind (q ∷ []) (walk_from (most - r.0) unit cursor))) (sym h.after)
            ∙ ap (walk_behind done) (sym (walk_from-record (most - r.0) unit c r h.is))
            ∙ ap (λ n. walk_behind done (walk_from n unit c)) less ∙ on.left;
      }

  whole_at_end : next (cursor_at order rest count) ≡ Ok None → walk_made done None ≡ w
  whole_at_end is =
      sym (behind_none done None) ∙ ap (walk_behind done) (sym (walk_from-end (most - count) unit (cursor_at order rest count) is)) ∙ on.left

  whole_at_fault : (f : Fault) → count < most → next (cursor_at order rest count) ≡ Err f → walk_made done (Some f) ≡ w
  whole_at_fault f room is =
      let c = cursor_at order rest count in
      let less : suc (most - (count + 1)) ≡ most - count = omega (arith, room) in
      sym (behind_none done (Some f)) ∙ ap (walk_behind done) (sym (walk_from-fault (most - (count + 1)) unit c f is))
      ∙ ap (λ n. walk_behind done (walk_from n unit c)) less ∙ on.left

  -- as many records as the walk may have
  whole_at_most : count ≡ most → walk_made done None ≡ w
  whole_at_most all =
      let c = cursor_at order rest count in
      let none : most - count ≡ 0 = omega (arith, all) in
      sym (behind_none done None) ∙ ap (walk_behind done) (sym (walk_from-none_left unit c)) ∙ ap (λ n. walk_behind done (walk_from n unit c)) (sym none) ∙ on.left

-- ---- a fault that is no failure

pub no_failure : (f : Fault) (b : Bool) → (IsTrue b ↔ (f.number ≡ 1) ⊎ (f.number ≡ 2)) → b ≡ false → (f ≢ no_memory) × (f ≢ read_failed)
no_failure f true tells e = absurd cc
no_failure f false tells e = (
  λ (is : f ≡ no_memory). (let so : IsTrue false = tells.1 (inl (ap (λ (g : Fault). g.number) is)) in absurd cc),
  λ (is : f ≡ read_failed). (let so : IsTrue false = tells.1 (inr (ap (λ (g : Fault). g.number) is)) in absurd cc),
)

-- ---- a reader's step

on_way_as : (w : Walk) (most : ℕ) (o order : Endianness) (u unit : FractionUnit) (n count : ℕ) (rest : List ℕ) (done : List Captured) → order ≡ o → unit ≡ u → count ≡ n
    → IsOnWay w most o u n rest done → IsOnWay w most order unit count rest done
on_way_as w most o order u unit n count rest done e f g on =
    subst (λ x. IsOnWay w most order unit x rest done) (sym g)
    (subst (λ x. IsOnWay w most order x n rest done) (sym f) (subst (λ x. IsOnWay w most x u n rest done) (sym e) on))

pub reader_number : (order : Endianness) (count number : ℕ) (bytes : List ℕ) (before after : Option (List ℕ)) → ReadsRecord order count (number, bytes) before after
    → number ≡ suc count
reader_number order count number bytes before after read =
    ap (λ (n : Numbered). n.0) (next-is_next_entry (cursor_at order (read.bytes ++ []) count) (number, bytes) (read.each []).0).is ∙ add-one count

-- why there was no record
abbrev pub WhyNone : RecordReader → ℕ → Fault → ℕ → ℕ → Option (List ℕ) → Option (List ℕ) → Type 0
WhyNone old most f old_count new_count before after = FailsWithin most f old_count new_count before after
    ⊎ (LacksMemory (order_in old) (room_in old) f before after ⊎ RefusesRecord (order_in old) (count_in old) f before after)

fault_place : (f : Fault) (place : ℕ) → f ≡ fault_at f.number place → f.place ≡ place
fault_place f place e = ap (λ (g : Fault). g.place) e

module _ {V : Type 0} (seen : V → List Captured → Type 0) (ended : V → List Captured → Fault → Type 0) (w : Walk) (most : ℕ) where
  seen_all : (done : List Captured) (v : V) → walk_made done None ≡ w → seen v done → IsSeen seen ended w v
  seen_all done v whole read = subst (λ (x : Walk). IsSeen seen ended x v) whole read

  seen_to : (done : List Captured) (f : Fault) (v : V) → walk_made done (Some f) ≡ w → ended v done f → IsSeen seen ended w v
  seen_to done f v whole read = subst (λ (x : Walk). IsSeen seen ended x v) whole read

  pub record_step : (old new : RecordReader) (before after : Option (List ℕ)) (v more : V) (number : ℕ) (bytes : List ℕ) (time : Option CaptureTime)
      → ReadsRecord (order_in old) (count_in old) (number, bytes) before after → TellsTime (order_in old) (unit_in old) time before after
      → order_in new ≡ order_in old → unit_in new ≡ unit_in old → count_in new ≡ number → count_in old < most → most ≤ max_records → SeesNext seen v more (number, bytes) time
      → GoesOn seen w most old before v → GoesOn seen w most new after more
  record_step old new before after v more number bytes time read tells order unit count room within sees on =
      let r : Numbered = (number, bytes) in
      let way = on.reader in
      let rest = way.rest in
      let c = cursor_at (order_in old) rest (count_in old) in
      let reads = subst (λ (o : Option (List ℕ)). ReadsRecord (order_in old) (count_in old) r o after) way.known read in
      let times = subst (λ (o : Option (List ℕ)). TellsTime (order_in old) (unit_in old) time o after) way.known tells in
      let h = known_record (order_in old) (unit_in old) (count_in old) r time rest after reads times in
      let one : r.0 ≡ count_in old + 1 = ap (λ (n : Numbered). n.0) (next-is_next_entry c r h.is).is in
      let q = captured_at (unit_in old) c r in
      let counted = way.on_way.counted in
      let next : r.0 ≡ suc (length on.done) = omega (arith, one, counted) in
      record {
        done = on.done ++ q ∷ [];
        reader = record {
          rest = h.rest;
          known = h.left;
          on_way = on_way_as w most (order_in old) (order_in new) (unit_in old) (unit_in new) number (count_in new) h.rest (on.done ++ q ∷ []) order unit count
              (one_read w most (order_in old) (unit_in old) (count_in old) rest on.done way.on_way r time after h room);
        };
        read = sees on.done q refl next (omega (arith, counted, room, within)) h.timed on.read;
      }

  pub end_step : (old : RecordReader) (before after : Option (List ℕ)) (v : V) → MeetsEnd before after → GoesOn seen w most old before v → IsSeen seen ended w v
  end_step old before after v meets on =
      let way = on.reader in
      seen_all on.done v
      (whole_at_end w most (order_in old) (unit_in old) (count_in old) way.rest on.done way.on_way
      (known_end (order_in old) (count_in old) way.rest after (subst (λ (o : Option (List ℕ)). MeetsEnd o after) way.known meets)))
      on.read

  pub fault_step : (old : RecordReader) (limit : ℕ) (f : Fault) (old_count new_count : ℕ) (before after : Option (List ℕ)) (v more : V)
      → WhyNone old limit f old_count new_count before after → f ≢ no_memory → f ≢ read_failed → count_in old < most → SeesEnd seen ended v more f
      → GoesOn seen w most old before v → IsSeen seen ended w more
  fault_step old limit f old_count new_count before after v more (inl failed) memory read room sees on = absurd (read failed.0)
  fault_step old limit f old_count new_count before after v more (inr (inl lacks)) memory read room sees on = absurd (memory lacks.0)
  fault_step old limit f old_count new_count before after v more (inr (inr refuses)) memory read room sees on =
      let way = on.reader in
      let c = cursor_at (order_in old) way.rest (count_in old) in
      let is = known_refusal (order_in old) (count_in old) f way.rest after (subst (λ (o : Option (List ℕ)). RefusesRecord (order_in old) (count_in old) f o after) way.known refuses) in
      let place : f.place ≡ count_in old + 1 = fault_place f (count_in old + 1) (next-fault_place c f is) in
      let counted = way.on_way.counted in
      seen_to on.done f more (whole_at_fault w most (order_in old) (unit_in old) (count_in old) way.rest on.done way.on_way f room is)
      (sees on.done (inr (omega (arith, place, counted))) on.read)

  -- as many records as the walk may have
  pub most_read : (old : RecordReader) (before : Option (List ℕ)) (v : V) → count_in old ≡ most → GoesOn seen w most old before v → IsSeen seen ended w v
  most_read old before v all on =
      let way = on.reader in
      seen_all on.done v (whole_at_most w most (order_in old) (unit_in old) (count_in old) way.rest on.done way.on_way all) on.read

-- ---- the header

none_before : (n : ℕ) → n - 0 ≡ n
none_before n = omega arith

-- behind the header of a known file
pub header_read : (file : List ℕ) (most : ℕ) (records : RecordReader) (after : Option (List ℕ))
    → Opens (order_in records) (Some file) after → TellsUnit (order_in records) (unit_in records) (Some file) after → count_in records ≡ 0
    → IsOpened file most records after
header_read file most records after opens tells none =
    let header = known_header (order_in records) (unit_in records) file after opens tells in
    let c = cursor_at (order_in records) header.rest 0 in record {
      rest = header.rest;
      known = header.left;
      on_way = on_way_as (walk_of most file) most (order_in records) (order_in records) (unit_in records) (unit_in records) 0 (count_in records) header.rest [] refl refl none
          (record {
            counted = refl;
            left = ap (λ n. walk_from n (unit_in records) c) (none_before most) ∙ ap (λ u. walk_from most u c) header.told ∙ sym (walk_of-opened most file c header.is);
          });
    }

module _ {V : Type 0} (seen : V → List Captured → Type 0) (ended : V → List Captured → Fault → Type 0) (most : ℕ) where
  pub capture_read : {A : Type 0} (input after : Option (List ℕ)) (records : RecordReader) (result : Result A Fault) (old new : V)
      → Opens (order_in records) input after → TellsUnit (order_in records) (unit_in records) input after → count_in records ≡ 0
      → ((file : List ℕ) → IsOpened file most records after → seen old [] → OnOk result (IsSeen seen ended (walk_of most file) new))
      → IfSome input (λ file. seen old [] → OnOk result (IsSeen seen ended (walk_of most file) new))
  capture_read None after records result old new opens tells none read = tt
  capture_read (Some file) after records result old new opens tells none read = read file (header_read file most records after opens tells none)

  refused_header : (file : List ℕ) (f : Fault) (limit old_count new_count : ℕ) (after : Option (List ℕ)) (old new : V)
      → FailsWithin limit f old_count new_count (Some file) after ⊎ RefusesHeader f (Some file) after → f ≢ read_failed → SeesEnd seen ended old new f
      → seen old [] → IsSeen seen ended (walk_of most file) new
  refused_header file f limit old_count new_count after old new (inl failed) read sees begun = absurd (read failed.0)
  refused_header file f limit old_count new_count after old new (inr refuses) read sees begun =
      let is = known_header_refusal f file after refuses in
      subst (λ (x : Walk). IsSeen seen ended x new) (sym (walk_of-refused most file f is)) (sees [] (inl (fault_place f 0 (opening-fault_place file f is), refl)) begun)

  pub capture_refused : {A : Type 0} (input after : Option (List ℕ)) (f : Fault) (limit old_count new_count : ℕ) (result : Result A Fault) (old new : V)
      → FailsWithin limit f old_count new_count input after ⊎ RefusesHeader f input after → f ≢ read_failed → OnOk result (SeesEnd seen ended old new f)
      → IfSome input (λ file. seen old [] → OnOk result (IsSeen seen ended (walk_of most file) new))
  capture_refused None after f limit old_count new_count result old new why read sees = tt
  capture_refused (Some file) after f limit old_count new_count (Err e) old new why read sees = λ begun. tt
  capture_refused (Some file) after f limit old_count new_count (Ok x) old new why read sees =
      refused_header file f limit old_count new_count after old new why read sees

-- ---- at the end

-- what holds where all was seen, and where a fault ended it, holds with that fault or none
pub seen_through : {V : Type 0} (seen : V → List Captured → Type 0) (ended : V → List Captured → Fault → Type 0) (P : List Captured → Option Fault → Type 0) (v : V)
    → ((done : List Captured) → seen v done → P done None) → ((done : List Captured) (f : Fault) → ended v done f → P done (Some f))
    → (records : List Captured) (fault : Option Fault) → is_seen seen ended records fault v → P records fault
seen_through seen ended P v all to records None h = all records h
seen_through seen ended P v all to records (Some f) h = to records f h
