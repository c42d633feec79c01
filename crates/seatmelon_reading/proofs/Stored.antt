-- What crossed before the fault of a capture, record by record.
use Rattle.std.proofs.Common.{◌≡◌, ◌∙◌, ℕ, suc, ◌≤◌, ◌<◌, List, [], ◌∷◌, ◌++◌, append-nil, map, filter, cond, Bool, true, false, not, ◌&&◌, nat_le, nat_lt, Option, None, Some, Result, Ok, Err, ap, refl, sym, subst, arith}
use Rattle.std.proofs.lemmas.Bool.Decides.{nat_tests}
use Rattle.std.proofs.lemmas.List.{map-append}
use Rattle.std.proofs.lemmas.List.Elements.{All-head, All-tail, filter-append}
use Rattle.std.specs.Option.{ForSome}
use Rattle.rasta_pcap.specs.declared.fault.Fault.{Fault}
use Rattle.rasta_pcap.specs.Capture.{Numbered}
use Rattle.rasta_pcap.specs.Captured.{Captured, numbered}
use Rattle.rasta_pdu.specs.Params.{Parameters}
use Rattle.rasta_check.specs.Capture.Crossing.{Crossing, nothing_crossed}
use Rattle.rasta_check.specs.Capture.Reading.{after_record, after_records, then_crossing}
use Rattle.seatmelon_reading.specs.Noted.{is_left_out}
use Rattle.seatmelon_reading.specs.Reading.{HasCrossed, HaveCrossed, after_end, after_next, judged_of, records_before, standing_with, stays}
use Rattle.seatmelon_reading.specs.Told.{AreLower}
use Rattle.seatmelon_reading.specs.declared.capture_refusal.CaptureRefusal.{CaptureRefusal}
use Rattle.seatmelon_reading.proofs.Told.{record_place}

abbrev Standing : Type 0
Standing = Result Crossing Fault

abbrev ok : Crossing → Standing
ok k = Ok k

abbrev err : Fault → Standing
err f = Err f

same_crossing : (k n : Crossing) → ok k ≡ ok n → k ≡ n
same_crossing k n e = cc

same_fault : (f g : Fault) → err f ≡ err g → f ≡ g
same_fault f g e = cc

-- ---- one record more

then_ok : (s : Standing) → then_crossing s ok ≡ s
then_ok (Ok k) = refl
then_ok (Err f) = refl

more_pushed : (s : Standing) (rs : List Numbered) (r : Numbered) → ((k : Crossing) → after_records k (rs ++ r ∷ []) None ≡ then_crossing (after_records k rs None) (λ n. after_record n r))
    → then_crossing s (λ n. after_records n (rs ++ r ∷ []) None) ≡ then_crossing (then_crossing s (λ n. after_records n rs None)) (λ n. after_record n r)
more_pushed (Ok k) rs r same = same k
more_pushed (Err f) rs r same = refl

pub pushed : (k : Crossing) (rs : List Numbered) (r : Numbered) → after_records k (rs ++ r ∷ []) None ≡ then_crossing (after_records k rs None) (λ n. after_record n r)
unfolding after_records
pushed k [] r = then_ok (after_record k r)
pushed k (x ∷ rs) r = more_pushed (after_record k x) rs r (λ n. pushed n rs r)

module _ (p : Parameters) (without : List ℕ) (done : List Captured) (q : Captured) where
  abbrev pub is_judged : Bool
  is_judged = not (is_left_out without q.number) && nat_le q.number p.last_record

  pub judged_push : judged_of p without (done ++ q ∷ []) ≡ judged_of p without done ++ cond is_judged (numbered q ∷ []) []
  judged_push = ap (filter (λ (r : Numbered). stays without r && nat_le r.0 p.last_record)) (map-append numbered done (q ∷ []))
      ∙ filter-append (λ (r : Numbered). stays without r && nat_le r.0 p.last_record) (map numbered done) (numbered q ∷ [])

  -- a record that isn't judged changes nothing
  passed_over : (k : Crossing) → is_judged ≡ false → HaveCrossed p without done k → HaveCrossed p without (done ++ q ∷ []) k
  passed_over k skipped before = ap (λ l. after_records (nothing_crossed p) l None)
      (judged_push ∙ ap (λ b. judged_of p without done ++ cond b (numbered q ∷ []) []) skipped ∙ append-nil (judged_of p without done)) ∙ before

  -- one that is judged is the next
  pub taken_in : (k n : Crossing) → is_judged ≡ true → HaveCrossed p without done k → after_record k (numbered q) ≡ Ok n → HaveCrossed p without (done ++ q ∷ []) n
  taken_in k n judged before is = ap (λ l. after_records (nothing_crossed p) l None)
      (judged_push ∙ ap (λ b. judged_of p without done ++ cond b (numbered q ∷ []) []) judged)
      ∙ pushed (nothing_crossed p) (judged_of p without done) (numbered q) ∙ ap (λ s. then_crossing s (λ m. after_record m (numbered q))) before ∙ is

-- ---- the records before a place

is_lower : (n place : ℕ) → n < place → nat_lt n place ≡ true
is_lower n place h = grind (arith, nat_tests)

not_lower : (n place : ℕ) → place ≤ n → nat_lt n place ≡ false
not_lower n place h = grind (arith, nat_tests)

-- all of them, where each has a lower number
all_before : (place : ℕ) (records : List Captured) → AreLower place records → records_before place records ≡ records
all_before place [] lower = refl
all_before place (r ∷ records) lower =
    ap (λ b. cond b (r ∷ records_before place records) (records_before place records)) (is_lower r.number place (All-head (λ (x : Captured). x.number < place) r records lower))
    ∙ ap (λ l. r ∷ l) (all_before place records (All-tail (λ (x : Captured). x.number < place) r records lower))

-- one of a higher number is none of them
none_more : (place : ℕ) (records : List Captured) (q : Captured) → place ≤ q.number → records_before place (records ++ q ∷ []) ≡ records_before place records
none_more place records q h =
    filter-append (λ (r : Captured). nat_lt r.number place) records (q ∷ [])
    ∙ ap (λ b. records_before place records ++ cond b (q ∷ []) []) (not_lower q.number place h) ∙ append-nil (records_before place records)

-- ---- what has crossed

abbrev Bounded : ℕ → Option CaptureRefusal → Type 0
Bounded n refusal = ForSome refusal (λ r. r.fault.place ≤ n)

no_bound : (n : ℕ) → Bounded n None
no_bound n r e = absurd cc

one_bound : (n : ℕ) (r : CaptureRefusal) → r.fault.place ≤ n → Bounded n (Some r)
one_bound n r h s e = (let same : r ≡ s = cc in subst (λ (x : CaptureRefusal). x.fault.place ≤ n) same h)

abbrev Stays : Crossing → Crossing → Option CaptureRefusal → Type 0
Stays k n refusal = ForSome refusal (λ r. n ≡ k)

module _ (p : Parameters) (without : List ℕ) (done : List Captured) (q : Captured) (k n : Crossing) where
  abbrev more : List Captured
  more = done ++ q ∷ []

  -- one that changes nothing
  same_next : (refusal : Option CaptureRefusal) (count : ℕ) → is_judged p without done q ≡ false → HaveCrossed p without done k
      → standing_with n refusal ≡ ok k → HasCrossed p without more n refusal × Bounded count refusal
  same_next None count skipped before e = (subst (HaveCrossed p without more) (sym (same_crossing n k e)) (passed_over p without done q k skipped before), no_bound count)
  same_next (Some r) count skipped before e = absurd cc

  -- one that is judged
  judged_next : (refusal : Option CaptureRefusal) → is_judged p without done q ≡ true → AreLower q.number done → HaveCrossed p without done k
      → standing_with n refusal ≡ after_record k (numbered q) → Stays k n refusal → HasCrossed p without more n refusal × Bounded q.number refusal
  judged_next None judged lower before e stay = (taken_in p without done q k n judged before (sym e), no_bound q.number)
  judged_next (Some r) judged lower before e stay =
      let place : r.fault.place ≡ q.number = record_place k (numbered q) r.fault (sym e) in
      let same : records_before r.fault.place more ≡ done = none_more r.fault.place done q (omega (arith, place))
      ∙ all_before r.fault.place done (subst (λ m. AreLower m done) (sym place) lower) in
      (subst (λ l. HaveCrossed p without l n) (sym same) (subst (HaveCrossed p without done) (sym (stay r refl)) before), one_bound q.number r (omega (arith, place)))

  -- by where the record stands
  next_by : (out behind : Bool) (refusal : Option CaptureRefusal) → is_left_out without q.number ≡ out → nat_lt p.last_record q.number ≡ behind
      → AreLower q.number done → HaveCrossed p without done k
      → standing_with n refusal ≡ cond out (ok k) (cond behind (ok k) (after_record k (numbered q))) → Stays k n refusal → HasCrossed p without more n refusal × Bounded q.number refusal
  next_by true behind refusal out far lower before e stay =
      same_next refusal q.number (ap (λ b. not b && nat_le q.number p.last_record) out) before e
  next_by false true refusal out far lower before e stay =
      let beyond : nat_le q.number p.last_record ≡ false = grind (arith, nat_tests, far) in
      same_next refusal q.number (ap (λ b. not b && nat_le q.number p.last_record) out ∙ beyond) before e
  next_by false false refusal out far lower before e stay =
      let within : nat_le q.number p.last_record ≡ true = grind (arith, nat_tests, far) in
      judged_next refusal (ap (λ b. not b && nat_le q.number p.last_record) out ∙ within) lower before e stay

  -- a capture that was refused stays so
  refused_next : (r : CaptureRefusal) (refusal : Option CaptureRefusal) (count : ℕ) → q.number ≡ suc count → r.fault.place ≤ count
      → HaveCrossed p without (records_before r.fault.place done) k → standing_with n refusal ≡ err r.fault → Stays k n refusal
      → HasCrossed p without more n refusal × Bounded q.number refusal
  refused_next r None count one within before e stay = absurd cc
  refused_next r (Some s) count one within before e stay =
      let same : s.fault ≡ r.fault = same_fault s.fault r.fault e in
      let place : s.fault.place ≡ r.fault.place = ap (λ (f : Fault). f.place) same in
      let records : records_before s.fault.place more ≡ records_before r.fault.place done =
      none_more s.fault.place done q (omega (arith, place, within, one)) ∙ ap (λ m. records_before m done) place in (
        subst (λ l. HaveCrossed p without l n) (sym records) (subst (HaveCrossed p without (records_before r.fault.place done)) (sym (stay s refl)) before),
        one_bound q.number s (omega (arith, place, within, one)),
      )

left_same : (b : Bool) (s : Standing) → cond b s s ≡ s
left_same true s = refl
left_same false s = refl

-- after one record more
pub stored_next : (p : Parameters) (without : List ℕ) (done : List Captured) (q : Captured) (k n : Crossing) (old new : Option CaptureRefusal) (count : ℕ) → q.number ≡ suc count
    → AreLower (suc count) done → ForSome old (λ r. r.fault.place ≤ count) → HasCrossed p without done k old
    → standing_with n new ≡ after_next p without (standing_with k old) (numbered q) → ForSome new (λ r. n ≡ k)
    → HasCrossed p without (done ++ q ∷ []) n new × ForSome new (λ r. r.fault.place ≤ q.number)
stored_next p without done q k n None new count one lower bound before e stay =
    next_by p without done q k n (is_left_out without q.number) (nat_lt p.last_record q.number) new refl refl (subst (λ m. AreLower m done) (sym one) lower) before e stay
stored_next p without done q k n (Some r) new count one lower bound before e stay =
    refused_next p without done q k n r new count one (bound r refl) before (e ∙ left_same (is_left_out without q.number) (err r.fault)) stay

-- at a fault that ends the reading
end_by : (p : Parameters) (without : List ℕ) (done : List Captured) (k n : Crossing) (new : Option CaptureRefusal) (f : Fault) (behind : Bool) → AreLower f.place done
    → HaveCrossed p without done k → standing_with n new ≡ cond behind (ok k) (err f) → ForSome new (λ r. n ≡ k) → HasCrossed p without done n new
end_by p without done k n None f true lower before e stay = subst (HaveCrossed p without done) (sym (same_crossing n k e)) before
end_by p without done k n None f false lower before e stay = absurd cc
end_by p without done k n (Some r) f true lower before e stay = absurd cc
end_by p without done k n (Some r) f false lower before e stay =
    let place : r.fault.place ≡ f.place = ap (λ (g : Fault). g.place) (same_fault r.fault f e) in
    subst (λ l. HaveCrossed p without l n) (sym (ap (λ m. records_before m done) place ∙ all_before f.place done lower)) (subst (HaveCrossed p without done) (sym (stay r refl)) before)

refused_end : (p : Parameters) (without : List ℕ) (done : List Captured) (k n : Crossing) (r : CaptureRefusal) (new : Option CaptureRefusal)
    → HaveCrossed p without (records_before r.fault.place done) k → standing_with n new ≡ err r.fault → ForSome new (λ s. n ≡ k) → HasCrossed p without done n new
refused_end p without done k n r None before e stay = absurd cc
refused_end p without done k n r (Some s) before e stay =
    let place : s.fault.place ≡ r.fault.place = ap (λ (f : Fault). f.place) (same_fault s.fault r.fault e) in
    subst (λ l. HaveCrossed p without l n) (sym (ap (λ m. records_before m done) place)) (subst (HaveCrossed p without (records_before r.fault.place done)) (sym (stay s refl)) before)

pub stored_end : (p : Parameters) (without : List ℕ) (done : List Captured) (k n : Crossing) (old new : Option CaptureRefusal) (f : Fault) → AreLower f.place done
    → HasCrossed p without done k old → standing_with n new ≡ after_end p (standing_with k old) f → ForSome new (λ r. n ≡ k) → HasCrossed p without done n new
stored_end p without done k n None new f lower before e stay = end_by p without done k n new f (nat_lt p.last_record f.place) lower before e stay
stored_end p without done k n (Some r) new f lower before e stay = refused_end p without done k n r new before e stay

-- where nothing was read
pub stored_begun : (p : Parameters) (without : List ℕ) (k : Crossing) (refusal : Option CaptureRefusal) → standing_with k refusal ≡ Ok (nothing_crossed p) → HasCrossed p without [] k refusal
unfolding after_records
stored_begun p without k None e = ap ok (sym (same_crossing k (nothing_crossed p) e))
stored_begun p without k (Some r) e = absurd cc
