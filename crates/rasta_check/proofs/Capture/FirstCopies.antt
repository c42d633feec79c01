-- The first copies of a growing list of packets, and that a list of packets has one list of first copies.
use Rattle.std.proofs.Common.{◌≡◌, ℕ, zero, suc, ◌+◌, ◌<◌, ◌≤◌, List, [], ◌∷◌, ◌++◌, length, Option, Some, None, slice_get, append-nil, refl, ap, sym, ◌∙◌, arith}
use Rattle.rasta_check.proofs.Prelude.{slice_get_past, slice_get_within, Side, wrapped, RedundancyPdu, Spells, FirstCopy, Packet, all_push}
use Rattle.rasta_check.proofs.Prelude.{begins_with, get_next, get_push_cases, get_front, get_front_within, get_push, slice_get_some, Parameters, AreParameters}
use Rattle.rasta_check.proofs.Capture.FaultlessLists.{IsSent, ordered, read_once}
use Rattle.rasta_check.proofs.Capture.Positions.{not_again, places_rise}

old_first : (p : Parameters) (xs : List Packet) (k : Packet) (s : Side) (own : List FirstCopy) → IsSent p xs s own → (i : ℕ) (c : FirstCopy) → slice_get own i ≡ Some c
    → (b : Packet) × (slice_get (xs ++ k ∷ []) c.place ≡ Some b) × (b.side ≡ s) × Spells p s c.pdu b.payload
old_first p xs k s own h i c g = (let w = h.firsts i c g in (w.0, get_front xs (k ∷ []) c.place w.0 w.1, w.2, w.3))

-- one packet more, which is none of this side or spells the PDU of a member
sent_more : (p : Parameters) (xs : List Packet) (k : Packet) (s : Side) (own : List FirstCopy) → IsSent p xs s own
    → (k.side ≡ s → (i : ℕ) × (c : FirstCopy) × (slice_get own i ≡ Some c) × Spells p s c.pdu k.payload) → IsSent p (xs ++ k ∷ []) s own
sent_more p xs k s own h last =
    record {
      valid = h.valid;
      firsts = old_first p xs k s own h;
      rising = h.rising;
      numbers = h.numbers;
      copies = all_push xs k h.copies (λ e. grind (arith, slice_get_within));
    }

pub sent_other : (p : Parameters) (xs : List Packet) (k : Packet) (s : Side) (own : List FirstCopy) → IsSent p xs s own → (k.side ≡ s → ⊥) → IsSent p (xs ++ k ∷ []) s own
sent_other p xs k s own h apart = sent_more p xs k s own h (λ side. absurd (apart side))

pub sent_copy : (p : Parameters) (xs : List Packet) (k : Packet) (s : Side) (own : List FirstCopy) (j : ℕ) (b : Packet) → IsSent p xs s own → slice_get xs j ≡ Some b → b.side ≡ s → b.payload ≡ k.payload → IsSent p (xs ++ k ∷ []) s own
sent_copy p xs k s own j b h there side same = sent_more p xs k s own h (λ e. (let w = h.copies j b there side in grind arith))

abbrev pub Counts_from : ℕ → List FirstCopy → Type 0
Counts_from f own = (i : ℕ) (c : FirstCopy) → slice_get own i ≡ Some c → c.pdu.number ≡ wrapped (f + i)

-- a new first copy
pub sent_first : (p : Parameters) (xs : List Packet) (k : Packet) (s : Side) (own : List FirstCopy) (d : RedundancyPdu) (f : ℕ) → IsSent p xs s own → Counts_from f own → k.side ≡ s → Spells p s d k.payload → d.number ≡ wrapped (f + length own)
    → IsSent p (xs ++ k ∷ []) s (own ++ record { place = length xs; pdu = d } ∷ []) × Counts_from f (own ++ record { place = length xs; pdu = d } ∷ [])
sent_first p xs k s own d f h cf side sp num =
    let c : FirstCopy = record { place = length xs; pdu = d } in
    let firsts = all_push own c (old_first p xs k s own h) (k, get_push xs k, side, sp) in
    let at = get_push own c in
    grind (arith, get_push_cases, slice_get_within, get_front_within, get_front, all_push)

pub sent_none : (p : Parameters) (s : Side) → AreParameters p → IsSent p [] s []
sent_none p s valid = record { valid = valid; firsts = λ i c g. absurd (cc); rising = λ i a b x y. absurd (cc); numbers = λ i a b x y. absurd (cc); copies = λ k a g e. absurd (cc) }

-- where two lists of first copies agree before a member of one, the other has one there, which crossed no later
reached : (p : Parameters) (xs : List Packet) (s : Side) (c d : List FirstCopy) → IsSent p xs s c → IsSent p xs s d → (i : ℕ) (a : FirstCopy) → i < 4294967296
    → ((j : ℕ) → j < i → slice_get c j ≡ slice_get d j) → slice_get c i ≡ Some a → (b : FirstCopy) × (slice_get d i ≡ Some b) × (b.place ≤ a.place)
reached p xs s c d hc hd i a l ag g =
    let f = hc.firsts i a g in
    let w = hd.copies a.place f.0 f.1 f.2 in
    let same : w.1.pdu ≡ a.pdu = read_once p hc.valid s w.1.pdu a.pdu f.0.payload w.4 f.3 in
    let head = slice_get_some c 0 (omega (arith, slice_get_within c i a g)) in
    let number = hc.numbers i head.0 a head.1 g in
    let up : w.0 < i → ⊥ = λ low. (let other = hc.numbers w.0 head.0 w.1 head.1 (ag w.0 low ∙ w.2) in grind (arith, not_again)) in
    let b = slice_get_some d i (omega (arith, up, slice_get_within d w.0 w.1 w.2)) in
    (b.0, b.1, grind (arith, places_rise, ordered))

module _ (p : Parameters) (xs : List Packet) (s : Side) (c d : List FirstCopy) (hc : IsSent p xs s c) (hd : IsSent p xs s d) where
  agree_at : (i : ℕ) → i < 4294967296 → ((j : ℕ) → j < i → slice_get c j ≡ slice_get d j) → (u v : Option FirstCopy) → slice_get c i ≡ u → slice_get d i ≡ v → u ≡ v
  agree_at i l ag u v x y =
      let there = λ (a : FirstCopy). reached p xs s c d hc hd i a l ag in
      let back = λ (b : FirstCopy). reached p xs s d c hd hc i b l (λ j k. sym (ag j k)) in
      grind (arith, read_once)

  agree : (n : ℕ) → n ≤ 4294967296 → (j : ℕ) → j < n → slice_get c j ≡ slice_get d j
  agree zero l j k = absurd (omega arith)
  agree (suc n) l j k = (let old = agree n (omega arith) in let here = agree_at n (omega arith) old _ _ refl refl in grind arith)

none_first : {A : Type 0} (xs : List A) → slice_get xs 0 ≡ None → xs ≡ []
none_first [] e = refl
none_first (x ∷ xs) e = absurd (cc)

-- a list of packets has one list of first copies
pub sent_once : (p : Parameters) (xs : List Packet) (s : Side) (c d : List FirstCopy) → IsSent p xs s c → IsSent p xs s d → length c < 4294967296 → c ≡ d
sent_once p xs s c d hc hd l =
    let same = agree p xs s c d hc hd (suc (length c)) l in
    let w = begins_with c d (λ k a e. (let b = slice_get_within c k a e in sym (same k (omega arith)) ∙ e)) in
    let none = none_first w.0 (sym (get_next c w.0) ∙ ap (λ (z : List FirstCopy). slice_get z (length c)) (sym w.1) ∙ sym (same (length c) (omega arith)) ∙ slice_get_past c (length c) (omega arith)) in
    sym (w.1 ∙ ap (λ (z : List FirstCopy). c ++ z) none ∙ append-nil c)
