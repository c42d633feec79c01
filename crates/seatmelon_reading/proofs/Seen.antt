-- The records of a known file, seen one after the other.
use Rattle.std.proofs.Common.{◌≡◌, ◌∙◌, inl, inr, ℕ, zero, suc, ◌+◌, ◌<◌, ◌≤◌, List, [], ◌∷◌, ◌++◌, append-nil, length, map, filter, take, drop, cond, Bool, true, false, not, ◌&&◌, nat_le, nat_lt, Option, None, Some, Result, Ok, Err, OnOk, IfSome, ap, refl, sym, subst, add-one, arith}
use Rattle.std.proofs.lemmas.Bool.Decides.{nat_tests}
use Rattle.std.proofs.lemmas.List.{length-map, length_push}
use Rattle.std.proofs.lemmas.List.Elements.{All-nil, All-push, All-weaker}
use Rattle.std.specs.List.{range_with_len}
use Rattle.std.specs.Option.{ForSome}
use Rattle.rasta_pcap.specs.declared.fault.Fault.{Fault}
use Rattle.rasta_pcap.specs.declared.time.CaptureTime.{CaptureTime}
use Rattle.rasta_pcap.specs.Capture.{Numbered, max_records, reading_of}
use Rattle.rasta_pcap.specs.Capture as captures
use Rattle.rasta_pcap.specs.Captured.{Captured, captured_in, numbered, walk_of}
use Rattle.rasta_pcap.specs.Walk.{IsSeen, SeesEnd, SeesNext, StandsBehind}
use Rattle.rasta_pcap.proofs.Captures.{numbers-reading_of}
use Rattle.rasta_pcap.proofs.Firsts.{file_first}
use Rattle.rasta_pcap.proofs.Walks.{seen_through, walk-is_reading}
use Rattle.rasta_pdu.specs.Params.{Parameters}
use Rattle.rasta_check.specs.Capture.Building.{crossed_in}
use Rattle.rasta_check.specs.Capture.Crossing.{Crossing, nothing_crossed}
use Rattle.rasta_check.specs.Capture.Reading.{after_reading, after_record, after_records, at_end, then_crossing}
use Rattle.seatmelon_reading.specs.Noted.{AreNotes, is_left_out}
use Rattle.seatmelon_reading.specs.Passing.{AreUnjudged, HasEnded, HasPassed, HasSeen, IsBegun, IsPassed, IsThrough, KeepsNext, KeepsStill, TellsNext, TellsStill, TellsTrue, crossed_by, whole_of}
use Rattle.seatmelon_reading.specs.Reading.{HasCrossed, IsSameBut, StaysOnceRefused, after_end, after_next, crossing_without, judged_of, reading_without, standing_in, stays}
use Rattle.seatmelon_reading.specs.Told.{AreLower, IsTrueOf}
use Rattle.seatmelon_reading.specs.declared.capture_refusal.CaptureRefusal.{CaptureRefusal}
use Rattle.seatmelon_reading.specs.declared.notes.Notes.{Notes}
use Rattle.seatmelon_reading.specs.declared.pass.Pass.{Pass}
use Rattle.seatmelon_reading.proofs.Passing.{NotesNext, Standing, below, from, none_refused, notes_as, same_either}
use Rattle.seatmelon_reading.proofs.Stored.{is_judged, judged_push, pushed, stored_begun, stored_end, stored_next}
use Rattle.seatmelon_reading.proofs.Told.{true_as}
use Rattle.seatmelon_reading.proofs.Unjudged.{unjudged_as, unjudged_begun}

abbrev ok : Crossing → Standing
ok k = Ok k

-- ---- what crosses by one record more

module _ (p : Parameters) (without : List ℕ) (done : List Captured) (q : Captured) where
  crossed_push : (b : Bool) → is_judged p without done q ≡ b
      → crossed_by p without (done ++ q ∷ []) ≡ cond b (then_crossing (crossed_by p without done) (λ (n : Crossing). after_record n (numbered q))) (crossed_by p without done)
  crossed_push true judged = ap (λ l. after_records (nothing_crossed p) l None)
      (judged_push p without done q ∙ ap (λ b. judged_of p without done ++ cond b (numbered q ∷ []) []) judged) ∙ pushed (nothing_crossed p) (judged_of p without done) (numbered q)
  crossed_push false judged = ap (λ l. after_records (nothing_crossed p) l None)
      (judged_push p without done q ∙ ap (λ b. judged_of p without done ++ cond b (numbered q ∷ []) []) judged ∙ append-nil (judged_of p without done))

  -- by where the record stands
  next_by : (out behind : Bool) (s : Standing) → is_left_out without q.number ≡ out → nat_lt p.last_record q.number ≡ behind → crossed_by p without done ≡ s
      → cond out s (cond behind s (then_crossing s (λ (n : Crossing). after_record n (numbered q)))) ≡ crossed_by p without (done ++ q ∷ [])
  next_by true behind s out far so = sym (crossed_push false (ap (λ b. not b && nat_le q.number p.last_record) out) ∙ so)
  next_by false true s out far so =
      let beyond : nat_le q.number p.last_record ≡ false = grind (arith, nat_tests, far) in
      sym (crossed_push false (ap (λ b. not b && nat_le q.number p.last_record) out ∙ beyond) ∙ so)
  next_by false false s out far so =
      let within : nat_le q.number p.last_record ≡ true = grind (arith, nat_tests, far) in
      ap (λ t. then_crossing t (λ (n : Crossing). after_record n (numbered q))) (sym so)
      ∙ sym (crossed_push true (ap (λ b. not b && nat_le q.number p.last_record) out ∙ within))

  next_is : (s : Standing) → after_next p without s (numbered q)
      ≡ cond (is_left_out without q.number) s (cond (nat_lt p.last_record q.number) s (then_crossing s (λ (n : Crossing). after_record n (numbered q))))
  next_is (Ok k) = refl
  next_is (Err f) = ap (λ t. cond (is_left_out without q.number) (Err f) t) (sym (same_either (nat_lt p.last_record q.number) (Err f)))

  crossed_next : (s : Standing) → s ≡ crossed_by p without done → after_next p without s (numbered q) ≡ crossed_by p without (done ++ q ∷ [])
  crossed_next s so = next_is s ∙ next_by (is_left_out without q.number) (nat_lt p.last_record q.number) s refl refl (sym so)

-- ---- what crosses at the end

not_below_by : (n m : ℕ) (b : Bool) → nat_lt m n ≡ b → nat_lt n (suc m) ≡ not b
not_below_by n m true e = grind (arith, nat_tests, e)
not_below_by n m false e = grind (arith, nat_tests, e)

not_below : (n m : ℕ) → nat_lt n (suc m) ≡ not (nat_lt m n)
not_below n m = not_below_by n m (nat_lt m n) refl

same_none : (b : Bool) → ◌≡◌ {A = Option Fault} (cond b None None) None
same_none true = refl
same_none false = refl

-- the fault that ends so many records, where it stands before the end of the window
abbrev fault_within : Parameters → ℕ → Option Fault → Option Fault
fault_within p count fault = cond (nat_lt count p.last_record) fault None

end_by : (p : Parameters) (k : Crossing) (f : Fault) (count : ℕ) (b : Bool) → nat_lt count p.last_record ≡ b → nat_lt p.last_record f.place ≡ not b
    → after_end p (Ok k) f ≡ at_end k (cond b (Some f) None)
end_by p k f count true inside place = ap (λ b. cond b (ok k) (Err f)) place
end_by p k f count false inside place = ap (λ b. cond b (ok k) (Err f)) place

behind_is : (p : Parameters) (f : Fault) (done : List Captured) → 0 < p.last_record → StandsBehind f done → nat_lt p.last_record f.place ≡ not (nat_lt (length done) p.last_record)
behind_is p f done some (inl (place, none)) =
    let empty : length done ≡ 0 = ap length none in
    from p.last_record f.place (omega (arith, place)) ∙ ap not (sym (below (length done) p.last_record (omega (arith, empty, some))))
behind_is p f done some (inr place) = ap (nat_lt p.last_record) place ∙ not_below p.last_record (length done)

crossed_end : (p : Parameters) (f : Fault) (done : List Captured) (s : Standing) → 0 < p.last_record → StandsBehind f done
    → after_end p s f ≡ then_crossing s (λ (n : Crossing). at_end n (fault_within p (length done) (Some f)))
crossed_end p f done (Err first) some behind = refl
crossed_end p f done (Ok k) some behind = end_by p k f (length done) (nat_lt (length done) p.last_record) refl (behind_is p f done some behind)

ends_well : (p : Parameters) (count : ℕ) (s : Standing) → s ≡ then_crossing s (λ (n : Crossing). at_end n (fault_within p count None))
ends_well p count (Err f) = refl
ends_well p count (Ok k) = ap (at_end k) (sym (same_none (nat_lt count p.last_record)))

-- ---- what crosses by a whole file

ended_by : (s : Standing) (rs : List Numbered) (f : Option Fault) → ((n : Crossing) → after_records n rs f ≡ then_crossing (after_records n rs None) (λ (m : Crossing). at_end m f))
    → then_crossing s (λ (n : Crossing). after_records n rs f) ≡ then_crossing (then_crossing s (λ (n : Crossing). after_records n rs None)) (λ (m : Crossing). at_end m f)
ended_by (Ok k) rs f h = h k
ended_by (Err e) rs f h = refl

pub records_ended : (rs : List Numbered) (f : Option Fault) (k : Crossing) → after_records k rs f ≡ then_crossing (after_records k rs None) (λ (m : Crossing). at_end m f)
unfolding after_records
records_ended [] f k = refl
records_ended (r ∷ rs) f k = ended_by (after_record k r) rs f (records_ended rs f)

-- the records of the window are the first ones
abbrev AreFrom : ℕ → List Numbered → Type 0
AreFrom n rs = map (λ (r : Numbered). r.0) rs ≡ range_with_len n (length rs)

abbrev judges : List ℕ → ℕ → Numbered → Bool
judges without last r = stays without r && nat_le r.0 last

and_false : (b : Bool) → b && false ≡ false
and_false true = refl
and_false false = refl

and_true : (b : Bool) → b && true ≡ b
and_true true = refl
and_true false = refl

plus_none : (n : ℕ) → n + 0 ≡ n
plus_none n = omega arith

none_plus : (n : ℕ) → 0 + n ≡ n
none_plus n = omega arith

take_none : (rs : List Numbered) → take 0 rs ≡ []
take_none rs = refl

abbrev head_or : ℕ → List ℕ → ℕ
head_or d [] = d
head_or d (x ∷ xs) = x

none_judged : (without : List ℕ) (last n : ℕ) (rs : List Numbered) → last < n → AreFrom n rs → filter (judges without last) rs ≡ []
none_judged without last n [] beyond numbers = refl
none_judged without last n (r ∷ rs) beyond numbers =
    let first : r.0 ≡ n = ap (head_or 0) numbers in
    let rest : AreFrom (n + 1) rs = ap (drop 1) numbers in
    let far : nat_le r.0 last ≡ false = grind (arith, nat_tests, first, beyond) in
    ap (λ b. cond (stays without r && b) (r ∷ filter (judges without last) rs) (filter (judges without last) rs)) far
    ∙ ap (λ b. cond b (r ∷ filter (judges without last) rs) (filter (judges without last) rs)) (and_false (stays without r))
    ∙ none_judged without last (n + 1) rs (omega (arith, beyond)) rest

first_judged : (without : List ℕ) (left n : ℕ) (rs : List Numbered) → AreFrom (n + 1) rs → filter (judges without (n + left)) rs ≡ filter (stays without) (take left rs)
first_judged without zero n rs numbers =
    ap (λ m. filter (judges without m) rs) (plus_none n) ∙ none_judged without n (n + 1) rs (omega arith) numbers ∙ sym (ap (filter (stays without)) (take_none rs))
first_judged without (suc left) n [] numbers = refl
first_judged without (suc left) n (r ∷ rs) numbers =
    let first : r.0 ≡ n + 1 = ap (head_or 0) numbers in
    let rest : AreFrom (n + 1 + 1) rs = ap (drop 1) numbers in
    let near : nat_le r.0 (n + suc left) ≡ true = grind (arith, nat_tests, first) in
    let sum : n + suc left ≡ n + 1 + left = omega arith in
    ap (λ b. cond (stays without r && b) (r ∷ filter (judges without (n + suc left)) rs) (filter (judges without (n + suc left)) rs)) near
    ∙ ap (λ b. cond b (r ∷ filter (judges without (n + suc left)) rs) (filter (judges without (n + suc left)) rs)) (and_true (stays without r))
    ∙ ap (λ l. cond (stays without r) (r ∷ l) l) (ap (λ m. filter (judges without m) rs) sum ∙ first_judged without left (n + 1) rs rest)

abbrev fault_before : Parameters → List ℕ → Option Fault
fault_before p file = fault_within p (length (captured_in file)) (reading_of max_records file).fault

numbers_in : (file : List ℕ) → map numbered (captured_in file) ≡ (reading_of max_records file).records
numbers_in file = ap (λ (g : captures.Reading). g.records) (walk-is_reading max_records file)

crossing_whole : (p : Parameters) (without file : List ℕ) → 0 < p.last_record → p.last_record ≤ max_records
    → crossing_without p without file ≡ then_crossing (crossed_by p without (captured_in file)) (λ (n : Crossing). at_end n (fault_before p file))
crossing_whole p without file some few =
    let whole = reading_of max_records file in
    let size : length whole.records ≡ length (captured_in file) = ap length (sym (numbers_in file)) ∙ length-map (captured_in file) numbered in
    let judged : filter (stays without) (take p.last_record whole.records) ≡ judged_of p without (captured_in file) =
    sym (first_judged without p.last_record 0 whole.records (numbers-reading_of max_records file)) ∙ ap (λ n. filter (judges without n) whole.records) (none_plus p.last_record)
    ∙ ap (filter (judges without p.last_record)) (sym (numbers_in file)) in
    ap (λ (g : captures.Reading). after_reading (nothing_crossed p) (reading_without without g)) (file_first p.last_record max_records file some few)
    ∙ ap (λ n. after_records (nothing_crossed p) (filter (stays without) (take p.last_record whole.records)) (cond (nat_lt n p.last_record) whole.fault None)) size
    ∙ ap (λ l. after_records (nothing_crossed p) l (fault_before p file)) judged
    ∙ records_ended (judged_of p without (captured_in file)) (fault_before p file) (nothing_crossed p)

-- ---- one record more

crossed_as : (p q : Parameters) (v w : List ℕ) (records : List Captured) (k : Crossing) (o : Option CaptureRefusal) → p ≡ q → v ≡ w → HasCrossed p v records k o → HasCrossed q w records k o
crossed_as p q v w records k o e f h = subst (λ (x : List ℕ). HasCrossed q x records k o) f (subst (λ (x : Parameters). HasCrossed x v records k o) e h)

-- a pass that has seen these records, by these parameters
record SeenBy (p : Parameters) (without : List ℕ) (done : List Captured) (pass : Pass) : Type 0 where
  standing : standing_in pass ≡ crossed_by p without done
  noted : AreNotes p without done pass.notes
  told : ForSome pass.refusal (IsTrueOf pass.notes.zero_is_no_time p without done)
  lower : AreLower (suc (length done)) done
  stored : HasCrossed p without done (crossed_in pass.builder) pass.refusal
  unjudged : AreUnjudged p without done (crossed_in pass.builder) pass.unjudged
  refused : ForSome pass.refusal (λ r. r.fault.place ≤ length done)

-- by other names for the same parameters
seen_as : (done : List Captured) (pass : Pass) (p : Parameters) (without : List ℕ) → pass.params ≡ p → pass.without.now ≡ without → SeenBy p without done pass → HasSeen pass done
seen_as done pass p without e f h = record {
  standing = h.standing ∙ ap (λ (x : Parameters). crossed_by x without done) (sym e) ∙ ap (λ (x : List ℕ). crossed_by pass.params x done) (sym f);
  noted = notes_as p pass.params without pass.without.now done pass.notes (sym e) (sym f) h.noted;
  told = true_as _ _ _ _ _ _ done pass.refusal refl (sym e) (sym f) h.told;
  lower = h.lower;
  stored = crossed_as p pass.params without pass.without.now done (crossed_in pass.builder) pass.refusal (sym e) (sym f) h.stored;
  unjudged = unjudged_as p pass.params without pass.without.now done (crossed_in pass.builder) pass.unjudged (sym e) (sym f) h.unjudged;
  refused = h.refused;
}

pub next_seen : (old new : Pass) (r : Numbered) (time : Option CaptureTime)
    → standing_in new ≡ after_next old.params old.without.now (standing_in old) r → NotesNext old new r time → TellsNext old new r time → KeepsNext old new r
    → new.params ≡ old.params → new.without.now ≡ old.without.now → new.notes.zero_is_no_time ≡ old.notes.zero_is_no_time → StaysOnceRefused old new
    → SeesNext HasSeen old new r time
next_seen old new r time standing noted told keeps params without untimed stays done q is next short timed h =
    let number : r.0 ≡ q.number = ap (λ (n : Numbered). n.0) (sym is) in
    let one : q.number ≡ suc (length done) = sym number ∙ next in
    let passed : HasPassed old r.0 done = record {
      noted = h.noted;
      lower = subst (λ n. AreLower n done) (sym next) h.lower;
      stored = h.stored;
      refused = λ f e. (let within = h.refused f e in omega (arith, next, within));
      told = h.told;
    } in
    let stood = standing ∙ ap (after_next old.params old.without.now (standing_in old)) (sym is) in
    let stored = stored_next old.params old.without.now done q (crossed_in old.builder) (crossed_in new.builder) old.refusal new.refusal (length done) one h.lower h.refused h.stored stood stays in
    seen_as (done ++ q ∷ []) new old.params old.without.now params without (record {
      standing = stood ∙ crossed_next old.params old.without.now done q (standing_in old) h.standing;
      noted = noted done q h.noted is one timed;
      told = true_as _ _ _ _ _ _ (done ++ q ∷ []) new.refusal refl params without (told done q passed next is timed);
      lower = subst (λ n. AreLower (suc n) (done ++ q ∷ [])) (sym (length_push done q ∙ add-one (length done)))
          (All-push (λ (x : Captured). x.number < suc (suc (length done))) done q
          (All-weaker (λ (x : Captured). x.number < suc (length done)) (λ (x : Captured). x.number < suc (suc (length done))) (λ x below. omega (arith, below)) done h.lower)
          (omega (arith, one)));
      stored = stored.0;
      unjudged = keeps done q h.stored h.unjudged is;
      refused = λ f e. (let within = stored.1 f e in let size = length_push done q in omega (arith, one, within, size));
    })

-- where a call answered, and each of these holds there
pub where_all : {A S N T K P : Type 0} (r : Result A Fault) → (S → N → T → K → P) → OnOk r S → OnOk r N → OnOk r T → OnOk r K → OnOk r P
where_all (Ok x) then s n t k = then s n t k
where_all (Err f) then s n t k = tt

pub end_seen : (old new : Pass) (f : Fault) → standing_in new ≡ after_end old.params (standing_in old) f → TellsStill old new f.place → KeepsStill old new → IsSameBut old new
    → SeesEnd HasSeen HasEnded old new f
end_seen old new f standing still keeps kept = λ done behind h. record {
  old = old;
  seen = h;
  behind = behind;
  standing = standing;
  kept = kept;
  still = still;
  keeps = keeps;
}

begun_crossed : (p : Parameters) (without : List ℕ) → crossed_by p without [] ≡ Ok (nothing_crossed p)
unfolding after_records
begun_crossed p without = refl

-- the records before a fault that ends them
passed_before : (f : Fault) (pass : Pass) (done : List Captured) → StandsBehind f done → HasSeen pass done → HasPassed pass f.place done
passed_before f pass done (inl (place, none)) h =
    let begun : standing_in pass ≡ Ok (nothing_crossed pass.params) = h.standing ∙ ap (crossed_by pass.params pass.without.now) none ∙ begun_crossed pass.params pass.without.now in record {
      noted = h.noted;
      lower = subst (AreLower f.place) (sym none) (All-nil (λ (x : Captured). x.number < f.place));
      stored = h.stored;
      refused = none_refused _ _ _ pass.refusal begun;
      told = h.told;
    }
passed_before f pass done (inr place) h = record {
  noted = h.noted;
  lower = subst (λ n. AreLower n done) (sym place) h.lower;
  stored = h.stored;
  refused = λ r e. (let within = h.refused r e in omega (arith, place, within));
  told = h.told;
}

-- ---- where nothing was read

pub seen_begun : (pass : Pass) → IsBegun pass → HasSeen pass []
seen_begun pass h = record {
  standing = h.standing ∙ sym (begun_crossed pass.params pass.without.now);
  noted = h.noted;
  told = none_refused _ _ _ pass.refusal h.standing;
  lower = All-nil (λ (x : Captured). x.number < 1);
  stored = stored_begun pass.params pass.without.now (crossed_in pass.builder) pass.refusal h.standing;
  unjudged = unjudged_begun pass.params pass.without.now (crossed_in pass.builder) pass.refusal pass.unjudged h.standing h.unjudged;
  refused = none_refused _ _ _ pass.refusal h.standing;
}

-- ---- a whole file

-- what stays of a pass
abbrev Stays : Pass → Pass → Type 0
Stays old new = (new.params ≡ old.params) × (new.without.now ≡ old.without.now) × (new.notes.zero_is_no_time ≡ old.notes.zero_is_no_time)

module _ (file : List ℕ) (start pass : Pass) (same : Stays start pass) where
  some_records : 0 < pass.params.last_record
  some_records = (let from_one = pass.window.from_one in let order = pass.window.in_order in omega (arith, from_one, order))

  abbrev whole_standing : Standing
  whole_standing = crossing_without pass.params pass.without.now file

  through : standing_in pass ≡ whole_standing → AreNotes pass.params pass.without.now (captured_in file) pass.notes → TellsTrue pass (captured_in file)
      → HasCrossed pass.params pass.without.now (captured_in file) (crossed_in pass.builder) pass.refusal → AreUnjudged pass.params pass.without.now (captured_in file) (crossed_in pass.builder) pass.unjudged
      → IsThrough (whole_of start.notes.zero_is_no_time start.params start.without.now file) pass
  through standing noted told stored unjudged = record {
    zero = same.2;
    standing = standing ∙ ap (λ (x : Parameters). crossing_without x pass.without.now file) same.0 ∙ ap (λ (x : List ℕ). crossing_without start.params x file) same.1;
    noted = notes_as _ _ _ _ (captured_in file) pass.notes same.0 same.1 noted;
    told = true_as _ _ _ _ _ _ (captured_in file) pass.refusal same.2 same.0 same.1 told;
    stored = crossed_as _ _ _ _ (captured_in file) (crossed_in pass.builder) pass.refusal same.0 same.1 stored;
    unjudged = unjudged_as _ _ _ _ (captured_in file) (crossed_in pass.builder) pass.unjudged same.0 same.1 unjudged;
  }

  -- no fault ended the records
  through_end : HasSeen pass (captured_in file) → (reading_of max_records file).fault ≡ None → IsThrough (whole_of start.notes.zero_is_no_time start.params start.without.now file) pass
  through_end h none =
      through
      (h.standing ∙ ends_well pass.params (length (captured_in file)) (crossed_by pass.params pass.without.now (captured_in file))
      ∙ ap (λ f. then_crossing (crossed_by pass.params pass.without.now (captured_in file)) (λ (n : Crossing). at_end n (fault_within pass.params (length (captured_in file)) f))) (sym none)
      ∙ sym (crossing_whole pass.params pass.without.now file some_records pass.window.last_most))
      h.noted h.told h.stored h.unjudged

  -- a fault did
  through_fault : (f : Fault) (end : HasEnded pass (captured_in file) f) → (reading_of max_records file).fault ≡ Some f → IsThrough (whole_of start.notes.zero_is_no_time start.params start.without.now file) pass
  through_fault f end is =
      let old = end.old in
      let seen = end.seen in
      let kept = end.kept in
      let captured = captured_in file in
      let some : 0 < old.params.last_record = (let from_one = old.window.from_one in let order = old.window.in_order in omega (arith, from_one, order)) in
      let place : HasPassed old f.place captured = passed_before f old captured end.behind seen in
      through
      (end.standing ∙ ap (λ s. after_end old.params s f) seen.standing
      ∙ crossed_end old.params f captured (crossed_by old.params old.without.now captured) some end.behind
      ∙ ap (λ o. then_crossing (crossed_by old.params old.without.now captured) (λ (n : Crossing). at_end n (fault_within old.params (length captured) o))) (sym is)
      ∙ sym (crossing_whole old.params old.without.now file some old.window.last_most)
      ∙ ap (λ (x : Parameters). crossing_without x old.without.now file) (sym kept.params) ∙ ap (λ (x : List ℕ). crossing_without pass.params x file) (sym kept.without))
      (subst (λ (n : Notes). AreNotes pass.params pass.without.now captured n) (sym kept.notes) (notes_as _ _ _ _ captured old.notes (sym kept.params) (sym kept.without) seen.noted))
      (end.still captured place)
      (crossed_as _ _ _ _ captured (crossed_in pass.builder) pass.refusal (sym kept.params) (sym kept.without)
      (stored_end old.params old.without.now captured (crossed_in old.builder) (crossed_in pass.builder) old.refusal pass.refusal f place.lower seen.stored end.standing kept.stays))
      (unjudged_as _ _ _ _ captured (crossed_in pass.builder) pass.unjudged (sym kept.params) (sym kept.without) (end.keeps captured seen.unjudged))

  pub file_seen : IsSeen HasSeen HasEnded (walk_of max_records file) pass → IsThrough (whole_of start.notes.zero_is_no_time start.params start.without.now file) pass
  file_seen h =
      let fault = ap (λ (g : captures.Reading). g.fault) (walk-is_reading max_records file) in
      seen_through HasSeen HasEnded
      (λ records last. records ≡ captured_in file → (reading_of max_records file).fault ≡ last → IsThrough (whole_of start.notes.zero_is_no_time start.params start.without.now file) pass) pass
      (λ done read all none. through_end (subst (HasSeen pass) all read) none)
      (λ done f end all is. through_fault f (subst (λ l. HasEnded pass l f) all end) is)
      (walk_of max_records file).records (walk_of max_records file).fault h refl (sym fault)

pub capture_passed : {A : Type 0} (input : Option (List ℕ)) (result : Result A Fault) (old new : Pass) → Stays old new
    → IfSome input (λ file. HasSeen old [] → OnOk result (IsSeen HasSeen HasEnded (walk_of max_records file) new)) → IfSome input (λ file. OnOk result (IsPassed file old new))
capture_passed None result old new same read = tt
capture_passed (Some file) (Err f) old new same read = tt
capture_passed (Some file) (Ok x) old new same read = λ begun. file_seen file old new same (read (seen_begun old begun))
