-- The first fault of a capture is the one that is read.
use Rattle.std.proofs.Common.{◌≡◌, ◌⊎◌, ℕ, zero, suc, ◌+◌, ◌≤◌, List, [], ◌∷◌, ◌++◌, length, take, drop, append_assoc, length-append, Option, Some, None, Result, Ok, Err, Bool, true, false, refl, ap, sym, ◌∙◌, add-one, arith, subst, le-ltb, inl, inr}
use Rattle.rasta_check.proofs.Prelude.{length_push, take-append-drop, dec_lt, yes, no, nat_tests, Fault, Side, IsCapture, cursor_after, opening, reading, reading_of, bytes_of}
use Rattle.rasta_check.proofs.Prelude.{IsCapture-reading_of, reading_of-IsCapture, Parameters, AreParameters, AreBytes, FirstCopy, packet_fault, OfConnection, Crossing}
use Rattle.rasta_check.proofs.Prelude.{after_record, after_records, then_crossing, crossing_of, keeps_limits, nothing_crossed, sent_by, with_packet, in_header, all_front}
use Rattle.std.proofs.Math.Seq.{take-append-add}
use Rattle.rasta_pcap.specs.Fault.{fault_at, too_many}
use Rattle.rasta_pcap.specs.Capture.{FileCursor, Reading, reading_opened}
use Rattle.rasta_pcap.proofs.Captures.{IsRefused-reading_of, opening-by_reading_of, reading_of-IsRefused, reading_of-header_fault}
use Rattle.rasta_check.specs.Capture.Faults.{AreFaultless, HasFault, in_frame, in_packet, in_limits, IsFaultlessCapture, IsRefusedCapture, in_reading, in_record, sent_of}
use Rattle.rasta_check.proofs.Capture.RecordBytes.{AllBytes, file_bytes}
use Rattle.rasta_check.proofs.Capture.Readings.{Crossed, Leads, Step, after-refused, bad_frame, bad_packet, crossed_more, crossing_by, file_leads, joined, no_room, numbered, numbered_of, records_lead, step_is, then_by}
use Rattle.rasta_check.proofs.Capture.FaultlessCaptures.{IsFaulty, faultless_is_read, faultless_of, not_refused, read_is_faultless, records_are_read}

-- ---- the first records of a file

-- as they stand among more, no more than are asked for, and where there are as many, no fault
reading_front : (n m : ℕ) (c : FileCursor) → n ≤ m
    → (bytes_of (reading n c) ≡ take n (bytes_of (reading m c))) × (length (bytes_of (reading n c)) ≤ n) × (length (bytes_of (reading n c)) ≡ n → (reading n c).fault ≡ None)
unfolding reading
reading_front zero m c l = (refl, omega arith, λ e. refl)
reading_front (suc n) zero c l = absurd (omega arith)
reading_front (suc n) (suc m) c l = (let more = reading_front n m (cursor_after c) (omega arith) in grind arith)

abbrev IsFront : ℕ → Reading → Reading → Type 0
IsFront n r all = (bytes_of r ≡ take n (bytes_of all)) × (length (bytes_of r) ≤ n) × (1 ≤ n → length (bytes_of r) ≡ n → r.fault ≡ None)

opened_front : (n m : ℕ) (o : Result FileCursor Fault) → n ≤ m → IsFront n (reading_opened n o) (reading_opened m o)
opened_front zero m (Err f) l = (refl, omega arith, λ a e. absurd (omega arith))
opened_front (suc n) m (Err f) l = (refl, omega arith, λ a e. absurd (omega arith))
opened_front n m (Ok c) l = (let w = reading_front n m c l in (w.0, w.1, λ a. w.2))

file_front : (n m : ℕ) (file : List ℕ) → n ≤ m → IsFront n (reading_of n file) (reading_of m file)
unfolding reading_of
file_front n m file l = opened_front n m (opening file) l

-- the records up to one of the file's
capture_front : (last : ℕ) (file : List ℕ) (front : List (List ℕ)) (frame : List ℕ) (later : List (List ℕ)) → bytes_of (reading_of last file) ≡ front ++ frame ∷ later
    → (suc (length front) ≤ last) × IsCapture (suc (length front)) file (front ++ frame ∷ [])
capture_front last file front frame later same =
    let n = suc (length front) in
    let few = (file_front last last file (omega arith)).1 in
    let high : n ≤ last = omega (arith, few, ap length same, length-append front (frame ∷ later)) in
    let these : bytes_of (reading_of n file) ≡ front ++ frame ∷ [] = (file_front n last file high).0 ∙ (ap (take n) same ∙ rw add-one at (take-append-add front (frame ∷ later) 1)) in
    (high, subst (IsCapture n file) these (IsCapture-reading_of n file ((file_front n last file high).2 (omega arith) (omega (arith, ap length these, length_push front frame)))))

-- the records after these are added to what crossed by them
goes_on : (k last : Crossing) (front later : List (List ℕ)) (end : Option Fault) (n m : ℕ) → m ≡ length front + n → after_records k (numbered n front) None ≡ Ok last
    → after_records k (numbered n (front ++ later)) end ≡ after_records last (numbered m later) end
unfolding after_records
goes_on k last [] later end n m at e = grind arith
goes_on k last (frame ∷ front) later end n m at e =
    let w = then_by (after_record k (n, frame)) (λ (next : Crossing). after_records next (numbered (n + 1) front) None) last e in
    ap (λ (q : Result Crossing Fault). then_crossing q (λ (next : Crossing). after_records next (numbered (n + 1) (front ++ later)) end)) w.1 ∙ goes_on w.0 last front later end (n + 1) m (omega arith) w.2

-- ---- the fault of one record

module _ (p : Parameters) (front : List (List ℕ)) (c s : List FirstCopy) (frame : List ℕ) where
  abbrev k : Crossing
  k = crossing_by p front c s

  abbrev n : ℕ
  n = suc (length front)

  own_is : (side : Side) → sent_by k side ≡ sent_of side c s
  own_is side = grind arith

  refused_at : (file : List ℕ) (f : Fault) → AreFaultless p front c s → (n ≤ p.last_record) × IsCapture n file (front ++ frame ∷ [])
      → ((c2 s2 : List FirstCopy) → AreFaultless p (front ++ frame ∷ []) c2 s2 → ⊥) → Step k (n, frame) (Err f) → IsRefusedCapture p file f
  refused_at file f faultless capture is (bad_frame g t found) = in_record front c s frame _ _ faultless capture.1 (grind (arith, nat_tests)) capture.0 (in_frame g found)
  refused_at file f faultless capture is (bad_packet a m t found some) =
      in_record front c s frame _ _ faultless capture.1 (grind (arith, nat_tests)) capture.0 (in_packet a m found (rw own_is at some))
  refused_at file f faultless capture is (no_room a t found none full) =
      in_record front c s frame _ _ faultless capture.1 (grind (arith, nat_tests)) capture.0 (in_limits a found (rw own_is at none) is)

  -- and back
  fault_is : (number : ℕ) (end : Option Side) → HasFault p front c s frame number end → p.first_record ≤ n → OfConnection p → AllBytes (front ++ frame ∷ []) → Crossed p front k
      → after_record k (n, frame) ≡ Err (record { number = number; place = n; end = end })
  fault_is number end (in_frame g found) low h are x = step_is k (n, frame) _ (bad_frame g (le-ltb n p.first_record low) found)
  fault_is number end (in_packet a m found some) low h are x = step_is k (n, frame) _ (bad_packet a m (le-ltb n p.first_record low) found (rw (← own_is) at some))
  fault_is number end (in_limits a found none is) low h are x = by (keeps_limits (with_packet k a)) refl
    where
      fine : packet_fault p (sent_by k a.side) a ≡ None
      fine = rw (← own_is) at none

      by : (b : Bool) → keeps_limits (with_packet k a) ≡ b → after_record k (n, frame) ≡ Err (fault_at too_many n)
      by true e = absurd (is _ _ (faultless_of p _ (with_packet k a) h are (crossed_more p front frame c s x _ (joined a (le-ltb n p.first_record low) found fine e))))
      by false e = step_is k (n, frame) _ (no_room a (le-ltb n p.first_record low) found fine e)

-- ---- a file

module _ (p : Parameters) (file : List ℕ) (h : OfConnection p) (are : AreBytes file) where
  -- what is read refuses the capture
  refused_by : (f : Fault) → Leads p (bytes_of (reading_of p.last_record file)) (reading_of p.last_record file).fault (Err f) → IsRefusedCapture p file f
  refused_by f (inl w) = elim (dec_lt 0 f.place) [
    | yes l ↦ in_reading _ w.0.client w.0.server f (faultless_of p _ w.0 h (file_bytes p.last_record file are) w.1) (IsRefused-reading_of p.last_record file f w.2 l)
    | no l ↦ in_header f (opening-by_reading_of p.last_record file f w.2 (omega arith))
  ]
  refused_by f (inr w) =
      let bytes = subst AllBytes (w.split ∙ sym (append_assoc w.front (w.frame ∷ []) w.later)) (file_bytes p.last_record file are) in
      let here = all_front AreBytes (w.front ++ w.frame ∷ []) w.later bytes in
      refused_at p w.front w.client w.server w.frame file f (faultless_of p _ _ h (all_front AreBytes w.front (w.frame ∷ []) here) w.crossed)
      (capture_front p.last_record file w.front w.frame w.later w.split) (λ c s g. not_refused p h w.front w.frame [] here w.client w.server w.crossed c s g f w.step) w.step

  pub is_refused : (f : Fault) → crossing_of p file ≡ Err f → IsRefusedCapture p file f
  is_refused f e = refused_by f (subst (Leads p _ _) e (file_leads p file))

  -- and what refuses the capture is read
  pub refused_is_read : (f : Fault) → IsRefusedCapture p file f → crossing_of p file ≡ Err f
  unfolding after_records
  refused_is_read f (in_header g e) = after-refused p file g e
  refused_is_read f (in_reading records c s g faultless refused) =
      let read = reading_of-IsRefused p.last_record file records g (omega (arith)) refused in
      (λ i. after_records (nothing_crossed p) (numbered_of p.last_record file i) (read.1 i))
      ∙ records_are_read p _ (Some g) c s h (file_bytes p.last_record file are) (subst (λ (xs : List (List ℕ)). AreFaultless p xs c s) (sym read.0) faultless)
  refused_is_read f (in_record records c s frame number end faultless capture low high fault) =
      let n = suc (length records) in
      let all = reading_of p.last_record file in
      let later = drop n (bytes_of all) in
      let read = (reading_of-IsCapture n file (records ++ frame ∷ []) (omega (arith, high)) capture).0 in
      let bytes = subst AllBytes read (file_bytes n file are) in
      let whole : bytes_of all ≡ records ++ frame ∷ later =
      sym (take-append-drop n (bytes_of all)) ∙ ap (λ (xs : List (List ℕ)). xs ++ later) (sym (file_front n p.last_record file high).0 ∙ read) ∙ append_assoc records (frame ∷ []) later in
      let before = records_are_read p records None c s h (all_front AreBytes records (frame ∷ []) bytes) faultless in
      let x = (subst (Leads p records None) before (records_lead p records None)).1 in
      (λ i. after_records (nothing_crossed p) (numbered_of p.last_record file i) all.fault)
      ∙ ap (λ (fs : List (List ℕ)). after_records (nothing_crossed p) (numbered 1 fs) all.fault) whole
      ∙ goes_on (nothing_crossed p) (crossing_by p records c s) records (frame ∷ later) all.fault 1 n (omega arith) before
      ∙ ap (λ (q : Result Crossing Fault). then_crossing q (λ (m : Crossing). after_records m (numbered (n + 1) later) all.fault)) (fault_is p records c s frame number end fault low h bytes x)

  -- ---- one answer

  pub some_answer : ((c : List FirstCopy) × (s : List FirstCopy) × IsFaultlessCapture p file c s) ⊎ ((f : Fault) × IsRefusedCapture p file f)
  some_answer = by (crossing_of p file) refl
    where
      by : (r : Result Crossing Fault) → crossing_of p file ≡ r → ((c : List FirstCopy) × (s : List FirstCopy) × IsFaultlessCapture p file c s) ⊎ ((f : Fault) × IsRefusedCapture p file f)
      by (Ok k) e = inl (k.client, k.server, read_is_faultless p file k h are e)
      by (Err f) e = inr (f, is_refused f e)

  pub one_fault : (f g : Fault) → IsRefusedCapture p file f → IsRefusedCapture p file g → f ≡ g
  one_fault f g a b = (let same = sym (refused_is_read f a) ∙ refused_is_read g b in cc)

  pub not_both : (c s : List FirstCopy) (f : Fault) → IsFaultlessCapture p file c s → IsRefusedCapture p file f → ⊥
  not_both c s f a b = absurd (let both : Ok _ ≡ Err f = sym (faultless_is_read p file c s h are a) ∙ refused_is_read f b in cc)

-- a file that is refused is no capture without a fault
pub read_is_faulty : (p : Parameters) (file : List ℕ) (f : Fault) → OfConnection p → AreBytes file → crossing_of p file ≡ Err f → IsFaulty p file
read_is_faulty p file f h are e client server is = (let z = faultless_is_read p file client server h are is in cc)

-- nor is one whose header is
pub opening_faulty : (p : Parameters) (file : List ℕ) (f : Fault) → AreParameters p → opening file ≡ Err f → IsFaulty p file
opening_faulty p file f valid e client server is =
    let none = reading_of-IsCapture p.last_record file is.records valid.window.last_most is.capture in
    grind (arith, reading_of-header_fault)
