-- What was read of a capture says what every file is that begins so.
use Rattle.std.proofs.Common.{◌≡◌, ◌∙◌, ℕ, ◌+◌, ◌<◌, ◌≤◌, List, [], ◌++◌, length, take, Option, Some, None, Result, Ok, Err, Bool, true, false, nat_lt, nat_le, nat_eq, cond, refl, ap, sym, subst, arith, append-nil, length-append}
use Rattle.std.specs.Io.KnownBytes.{Consumes}
use Rattle.std.proofs.KnownBytes.{Consumes-trans}
use Rattle.std.proofs.Math.Seq.{take-append_seam}
use Rattle.std.proofs.lemmas.List.{take_all, nil_from_length}
use Rattle.std.proofs.lemmas.Bool.{ltb-true, ltb-false, leb-false, eqb-true}
use Rattle.std.proofs.lemmas.Bool.Decides.{nat_tests}
use Rattle.rasta_pcap.specs.declared.fault.Fault.{Fault}
use Rattle.rasta_pcap.specs.declared.pcap.Endianness.{Endianness}
use Rattle.rasta_pcap.specs.Fault.{fault_at, cut_record, too_many, record_too_long}
use Rattle.rasta_pcap.specs.Capture.{FileCursor, RecordEntry, IsEntry, IsHeader, Numbered, cursor_at, captured_length, next_length, next_bytes, max_records, max_captured, opening, next}
use Rattle.rasta_pcap.specs.Filling.{IsFilled, ReadsUpTo}
use Rattle.rasta_pcap.specs.Fronts.{front_of}
use Rattle.rasta_pcap.specs.Stream.{ReadsJust, Opens, RefusesHeader, ReadsRecord, MeetsEnd, RefusesRecord}
use Rattle.rasta_pcap.proofs.Headers.{opening-is_header, opening-with_more, with_more}
use Rattle.rasta_pcap.proofs.Steps.{Outcome, tested}
use Rattle.rasta_pcap.proofs.Captures.{next-entry, open_header}

not_zero : (n : ℕ) → 0 < n → nat_eq n 0 ≡ false
not_zero n h = grind (arith, nat_tests)

not_less : (n m : ℕ) → m ≤ n → nat_lt n m ≡ false
not_less n m h = grind (arith, nat_tests)

by_test : (b : Bool) (P : Type 0) → (b ≡ true → P) → (b ≡ false → P) → P
by_test true P f g = f refl
by_test false P f g = g refl

-- nothing follows bytes that end the input
nothing_more : (bytes more : List ℕ) → more ≡ [] → bytes ++ more ≡ bytes
nothing_more bytes more h = ap (λ l. bytes ++ l) h ∙ append-nil bytes

-- The header of a file.

pub opens : (bytes : List ℕ) (c : FileCursor) (old new : Option (List ℕ)) → IsFilled 24 old new bytes → opening bytes ≡ Ok c → Opens c.order old new
opens bytes c old new filled h =
    let is_header = (opening-is_header bytes c h).0 in
    let whole : take 24 bytes ≡ bytes = take_all 24 bytes filled.within in record {
      bytes = bytes;
      consumed = filled.consumed;
      each = λ more. open_header c.order bytes more (subst (IsHeader c.order) whole is_header);
    }

pub refuses_header : (bytes : List ℕ) (f : Fault) (old new : Option (List ℕ)) → IsFilled 24 old new bytes → opening bytes ≡ Err f → RefusesHeader f old new
refuses_header bytes f old new filled h = record {
  bytes = bytes;
  met_end = nat_lt (length bytes) 24;
  consumed = filled.consumed;
  at_end = λ short. filled.at_end (ltb-true (length bytes) 24 short);
  each = λ more follows. by_test (nat_lt (length bytes) 24) (opening (bytes ++ more) ≡ Err f)
      (λ short. ap opening (nothing_more bytes more (follows short)) ∙ h)
      (λ whole. opening-with_more bytes more (ltb-false (length bytes) 24 whole) ∙ ap (with_more more) h);
}

-- The header of a record.

abbrev front_tested : Bool → Bool → Bool → Bool → ℕ → ℕ → Result (Option ℕ) Fault
front_tested none full short long place captured =
    cond none (Ok None)
    (cond full (Err (fault_at too_many place))
    (cond short (Err (fault_at cut_record place))
    (cond long (Err (fault_at record_too_long place)) (Ok (Some captured)))))

record IsPassed (none full short long : Bool) (captured n : ℕ) : Type 0 where
  is : n ≡ captured
  some : none ≡ false
  room : full ≡ false
  header : short ≡ false
  bounded : long ≡ false

passed : (none full short long : Bool) (place captured n : ℕ) → front_tested none full short long place captured ≡ Ok (Some n)
    → IsPassed none full short long captured n
passed true full short long place captured n h = absurd (cc)
passed false true short long place captured n h = absurd (cc)
passed false false true long place captured n h = absurd (cc)
passed false false false true place captured n h = absurd (cc)
passed false false false false place captured n h = record { is = cc; some = refl; room = refl; header = refl; bounded = refl }

none_passed : (none full short long : Bool) (place captured : ℕ) → front_tested none full short long place captured ≡ Ok None → none ≡ true
none_passed true full short long place captured h = refl
none_passed false true short long place captured h = absurd (cc)
none_passed false false true long place captured h = absurd (cc)
none_passed false false false true place captured h = absurd (cc)
none_passed false false false false place captured h = absurd (cc)

abbrev of_front : Fault → Result (Option ℕ) Fault
of_front f = Err f

abbrev of_record : Fault → Outcome
of_record f = Err f

same_fault : (f g : Fault) → of_front g ≡ of_front f → of_record g ≡ of_record f
same_fault f g h = let e : g ≡ f = cc in ap of_record e

-- where the input ends within the header
short_fault : (none full long long' cut : Bool) (place captured : ℕ) (r : Numbered) (f : Fault) → front_tested none full true long place captured ≡ Err f
    → tested none full true long' cut place r ≡ Err f
short_fault true full long long' cut place captured r f h = absurd (cc)
short_fault false true long long' cut place captured r f h = same_fault f (fault_at too_many place) h
short_fault false false long long' cut place captured r f h = same_fault f (fault_at cut_record place) h

-- where the header is whole
whole_fault : (none full long cut : Bool) (place captured : ℕ) (r : Numbered) (f : Fault) → front_tested none full false long place captured ≡ Err f
    → tested false full false long cut place r ≡ Err f
whole_fault true full long cut place captured r f h = absurd (cc)
whole_fault false true long cut place captured r f h = same_fault f (fault_at too_many place) h
whole_fault false false true cut place captured r f h = same_fault f (fault_at record_too_long place) h
whole_fault false false false cut place captured r f h = absurd (cc)

-- what a whole header says of the record that it begins
pub record IsFront (order : Endianness) (count : ℕ) (front : List ℕ) (captured : ℕ) : Type 0 where
  pub size : length front ≡ 16
  pub room : count < max_records
  pub captured_is : captured ≡ captured_length order front
  pub bounded : captured ≤ max_captured

pub front_of-some : (order : Endianness) (count : ℕ) (front : List ℕ) (captured : ℕ) → length front ≤ 16
    → front_of order count front ≡ Ok (Some captured) → IsFront order count front captured
front_of-some order count front captured within h =
    let size = length front in
    let said = captured_length order front in
    let p = passed (nat_eq size 0) (nat_le max_records count) (nat_lt size 16) (nat_lt max_captured said) (count + 1) said captured h in
    let long : 16 ≤ size = ltb-false size 16 p.header in
    let is : captured ≡ said = p.is in
    let fits : said ≤ max_captured = ltb-false max_captured said p.bounded in record {
      size = omega arith;
      room = leb-false max_records count p.room;
      captured_is = is;
      bounded = omega arith;
    }

-- nothing comes next at the exact end
pub meets_end : (order : Endianness) (count : ℕ) (front : List ℕ) (old new : Option (List ℕ)) → IsFilled 16 old new front
    → front_of order count front ≡ Ok None → MeetsEnd old new
meets_end order count front old new filled h =
    let size = length front in
    let said = captured_length order front in
    let none : size ≡ 0 = eqb-true size 0
    (none_passed (nat_eq size 0) (nat_le max_records count) (nat_lt size 16) (nat_lt max_captured said) (count + 1) said h) in
    (subst (Consumes old new) (nil_from_length front none) filled.consumed, filled.at_end (omega arith))

-- the header of a record that goes on
pub taken_front : (front more : List ℕ) → length front ≡ 16 → take 16 (front ++ more) ≡ front
taken_front front more size = ap (λ n. take n (front ++ more)) (sym size) ∙ take-append_seam front more

next-whole_front : (order : Endianness) (count : ℕ) (front more : List ℕ) (f : Fault) → length front ≡ 16
    → front_of order count front ≡ Err f → next (cursor_at order (front ++ more) count) ≡ Err f
next-whole_front order count front more f size h =
    let rest = front ++ more in
    let c = cursor_at order rest count in
    let all = length rest in
    let said = captured_length order front in
    let full = nat_le max_records count in
    let r : Numbered = (count + 1, next_bytes c) in
    let whole : 16 ≤ all = simp length-append (omega arith) in
    let captured : next_length c ≡ said = ap (captured_length order) (taken_front front more size) in
    let cut = nat_lt all (16 + next_length c) in
    ap (λ b. tested b full (nat_lt all 16) (nat_lt max_captured (next_length c)) cut (count + 1) r) (not_zero all (omega arith))
    ∙ ap (λ b. tested false full b (nat_lt max_captured (next_length c)) cut (count + 1) r) (not_less all 16 whole)
    ∙ ap (λ n. tested false full false (nat_lt max_captured n) cut (count + 1) r) captured
    ∙ whole_fault (nat_eq (length front) 0) full (nat_lt max_captured said) cut (count + 1) said r f
    (subst (λ b. front_tested (nat_eq (length front) 0) full b (nat_lt max_captured said) (count + 1) said ≡ Err f) (not_less (length front) 16 (omega arith)) h)

next-short_front : (order : Endianness) (count : ℕ) (front : List ℕ) (f : Fault) → nat_lt (length front) 16 ≡ true
    → front_of order count front ≡ Err f → next (cursor_at order front count) ≡ Err f
next-short_front order count front f short h =
    let c = cursor_at order front count in
    let size = length front in
    let said = captured_length order front in
    let full = nat_le max_records count in
    let r : Numbered = (count + 1, next_bytes c) in
    let cut = nat_lt size (16 + next_length c) in
    let long = nat_lt max_captured (next_length c) in
    ap (λ b. tested (nat_eq size 0) full b long cut (count + 1) r) short
    ∙ short_fault (nat_eq size 0) full (nat_lt max_captured said) long cut (count + 1) said r f
    (subst (λ b. front_tested (nat_eq size 0) full b (nat_lt max_captured said) (count + 1) said ≡ Err f) short h)

pub refuses_front : (order : Endianness) (count : ℕ) (front : List ℕ) (f : Fault) (old new : Option (List ℕ)) → IsFilled 16 old new front
    → front_of order count front ≡ Err f → RefusesRecord order count f old new
refuses_front order count front f old new filled h =
    let within : length front ≤ 16 = filled.within in record {
      bytes = front;
      met_end = nat_lt (length front) 16;
      consumed = filled.consumed;
      at_end = λ short. filled.at_end (ltb-true (length front) 16 short);
      each = λ more follows. by_test (nat_lt (length front) 16) (next (cursor_at order (front ++ more) count) ≡ Err f)
          (λ short. ap (λ (l : List ℕ). next (cursor_at order l count)) (nothing_more front more (follows short)) ∙ next-short_front order count front f short h)
          (λ whole. let long : 16 ≤ length front = ltb-false (length front) 16 whole in
          next-whole_front order count front more f (omega arith) h);
    }

-- The bytes of a record.

tested-cut : (size count captured place : ℕ) (r : Numbered) → 16 ≤ size → count < max_records → captured ≤ max_captured → size < 16 + captured
    → tested (nat_eq size 0) (nat_le max_records count) (nat_lt size 16) (nat_lt max_captured captured) (nat_lt size (16 + captured)) place r
    ≡ Err (fault_at cut_record place)
tested-cut size count captured place r header room bounded cut = grind (arith, nat_tests)

next-cut : (order : Endianness) (count captured : ℕ) (front body : List ℕ) → IsFront order count front captured → length body < captured
    → next (cursor_at order (front ++ body) count) ≡ Err (fault_at cut_record (count + 1))
next-cut order count captured front body h short =
    let c = cursor_at order (front ++ body) count in
    let size : length front ≡ 16 = h.size in
    let room : count < max_records = h.room in
    let said : captured ≡ next_length c = h.captured_is ∙ ap (captured_length order) (sym (taken_front front body size)) in
    let bounded : captured ≤ max_captured = h.bounded in
    let long : length (front ++ body) ≡ 16 + length body = length-append front body ∙ ap (λ n. n + length body) size in
    tested-cut (length (front ++ body)) count (next_length c) (count + 1) (count + 1, next_bytes c) (omega arith) room (omega arith) (omega arith)

pub refuses_body : (order : Endianness) (count captured : ℕ) (front body : List ℕ) (old mid new : Option (List ℕ)) → IsFilled 16 old mid front
    → front_of order count front ≡ Ok (Some captured) → IsFilled captured mid new body → length body < captured
    → RefusesRecord order count (fault_at cut_record (count + 1)) old new
refuses_body order count captured front body old mid new filled h bytes short =
    let is_front = front_of-some order count front captured filled.within h in record {
      bytes = front ++ body;
      met_end = true;
      consumed = Consumes-trans old mid new front body filled.consumed bytes.consumed;
      at_end = λ _. bytes.at_end short;
      each = λ more follows. ap (λ (l : List ℕ). next (cursor_at order l count)) (nothing_more (front ++ body) more (follows refl))
          ∙ next-cut order count captured front body is_front short;
    }

pub reads_record : (order : Endianness) (count captured : ℕ) (front body : List ℕ) (old mid new : Option (List ℕ)) → IsFilled 16 old mid front
    → front_of order count front ≡ Ok (Some captured) → IsFilled captured mid new body → captured ≤ length body
    → ReadsRecord order count (count + 1, body) old new
reads_record order count captured front body old mid new filled h bytes whole =
    let is_front = front_of-some order count front captured filled.within h in
    let within : length body ≤ captured = bytes.within in
    let said : captured ≡ captured_length order front = is_front.captured_is in
    let bounded : captured ≤ max_captured = is_front.bounded in
    let e : RecordEntry = record { header = front; bytes = body } in
    let is_entry : IsEntry order e = record { size = is_front.size; captured = omega arith; bounded = omega arith } in record {
      bytes = front ++ body;
      consumed = Consumes-trans old mid new front body filled.consumed bytes.consumed;
      each = λ more. let n = next-entry order e more count is_entry is_front.room in (n.found, n.after_is);
    }

-- a header was read whose record doesn't fit
pub lacks_memory : (order : Endianness) (count captured memory : ℕ) (front : List ℕ) (old new : Option (List ℕ)) → IsFilled 16 old new front
    → front_of order count front ≡ Ok (Some captured) → memory < captured
    → ReadsJust (λ rest after. memory < captured_length order (take 16 rest)) old new
lacks_memory order count captured memory front old new filled h lacking =
    let is_front = front_of-some order count front captured filled.within h in
    let said : captured ≡ captured_length order front = is_front.captured_is in record {
      bytes = front;
      consumed = filled.consumed;
      each = λ more. let same : captured_length order (take 16 (front ++ more)) ≡ captured_length order front = ap (captured_length order) (taken_front front more is_front.size) in
          omega arith;
    }

-- the bytes of a header, and some after it
pub reads_up_to : (most captured : ℕ) (front : List ℕ) (old mid new : Option (List ℕ)) → IsFilled 16 old mid front → captured ≤ most
    → ReadsUpTo captured mid new → ReadsUpTo (16 + most) old new
reads_up_to most captured front old mid new filled fits (bytes, consumed, within) =
    let header : length front ≤ 16 = filled.within in
    (front ++ bytes, Consumes-trans old mid new front bytes filled.consumed consumed, simp length-append (omega arith))
