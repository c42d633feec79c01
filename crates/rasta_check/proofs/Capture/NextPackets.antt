-- Which packet may come next.
use Rattle.std.proofs.Common.{◌≡◌, ℕ, ◌+◌, ◌^◌, ◌<◌, ◌≤◌, ◌⊎◌, List, [], ◌∷◌, ◌++◌, length, Some, slice_get, refl, ap, sym, ◌∙◌, arith, inl, inr, subst}
use Rattle.rasta_check.proofs.Prelude.{slice_get_within, dec_lt, yes, no, Side, Parameters, AreParameters, wrapped, RedundancyPdu, Spells, FirstCopy, Packet, World, Reaches}
use Rattle.rasta_check.proofs.Prelude.{slice_get_some, get_next}
use Rattle.rasta_check.proofs.Capture.FaultlessLists.{IsSent, ordered}
use Rattle.rasta_end.proofs.Lists.{get_front, get_front_within}
use Rattle.rasta_check.proofs.Capture.FirstCopies.{sent_once, Counts_from}
use Rattle.rasta_check.proofs.Script.ScriptsOfRuns.{told_by}
use Rattle.rasta_check.proofs.Capture.Positions.{places_rise}

-- it says something, and its number has crossed with the same bytes, or is the next, or is the first
abbrev pub CanFollow : Parameters → List Packet → Side → List FirstCopy → Packet → Type 0
CanFollow p packets s own a =
    (d : RedundancyPdu) × Spells p s d a.payload
    × (((i : ℕ) × (c : FirstCopy) × (slice_get own i ≡ Some c) × (c.pdu ≡ d))
    ⊎ ((c : FirstCopy) → slice_get own 0 ≡ Some c → d.number ≡ wrapped (c.pdu.number + length own)))

-- a list begins with what has crossed, and goes on with what crosses later
pub record Begins (big own : List FirstCopy) (n : ℕ) : Type 0 where
  pub later : List FirstCopy
  pub whole : big ≡ own ++ later
  pub place : (c : FirstCopy) → slice_get later 0 ≡ Some c → n ≤ c.place

abbrev AreBelow : ℕ → List FirstCopy → Type 0
AreBelow n own = (i : ℕ) (c : FirstCopy) → slice_get own i ≡ Some c → c.place < n

split_at : (n : ℕ) (big : List FirstCopy) → (own : List FirstCopy) × AreBelow n own × Begins big own n
split_at n [] = ([], λ i c g. absurd (cc), record { later = []; whole = refl; place = λ c g. absurd (cc) })
split_at n (c ∷ cs) = elim (dec_lt c.place n) [
  | yes l ↦ (let r = split_at n cs in let low = r.1 in (c ∷ r.0, λ i d g. grind arith, record { later = r.2.later; whole = ap (λ (xs : List FirstCopy). c ∷ xs) r.2.whole; place = r.2.place }))
  | no l ↦ ([], λ i d g. absurd (cc), record { later = c ∷ cs; whole = refl; place = λ d g. grind arith })
]

module _ (p : Parameters) (xs ys : List Packet) (s : Side) (own later : List FirstCopy) (h : IsSent p (xs ++ ys) s (own ++ later)) (high : (c : FirstCopy) → slice_get later 0 ≡ Some c → length xs ≤ c.place) where
  -- a member at the next place or before it is among the first, or the next
  next_at : (i : ℕ) (c : FirstCopy) → slice_get (own ++ later) i ≡ Some c → c.place ≤ length xs → length own ≤ i → i ≡ length own
  next_at i c g low m =
      let f = slice_get_some (own ++ later) (length own) (omega (arith, slice_get_within (own ++ later) i c g)) in
      let first = high f.0 (sym (get_next own later) ∙ f.1) in
      grind (arith, places_rise, ordered)

  sent_part : AreBelow (length xs) own → IsSent p xs s own
  sent_part low = grind (arith, get_front, get_front_within, slice_get_within, get_next, next_at)

-- the sent list of more packets begins with that of these
pub cut : (p : Parameters) (ys xs : List Packet) (s : Side) (big : List FirstCopy) → IsSent p (xs ++ ys) s big → (own : List FirstCopy) × IsSent p xs s own × Begins big own (length xs)
cut p ys xs s big h =
    let w = split_at (length xs) big in
    (w.0, sent_part p xs ys s w.0 w.2.later (subst (λ (cs : List FirstCopy). IsSent p (xs ++ ys) s cs) w.2.whole h) w.2.place w.1, w.2)

-- it spells the PDU of a member, which crossed before, or is the next
pub can_follow : (p : Parameters) (xs rest : List Packet) (s : Side) (own : List FirstCopy) (a : Packet) → IsSent p xs s own → length own < 2 ^ 32 → a.side ≡ s → (more : List FirstCopy) → IsSent p (xs ++ a ∷ rest) s more → CanFollow p xs s own a
can_follow p xs rest s own a h l sd more g =
    let r = cut p (a ∷ rest) xs s more g in
    let later = r.2.later in
    let whole : more ≡ own ++ later = r.2.whole ∙ ap (λ (cs : List FirstCopy). cs ++ later) (sym (sent_once p xs s own r.0 h r.1 l)) in
    let goes = subst (λ (cs : List FirstCopy). IsSent p (xs ++ a ∷ rest) s cs) whole g in
    let w = goes.copies (length xs) a (get_next xs (a ∷ rest)) sd in (
      w.1.pdu,
      w.4,
      elim (dec_lt w.0 (length own)) [
        | yes b ↦ inl (w.0, w.1, sym (get_front_within own later w.0 b) ∙ w.2, refl)
        | no b ↦ inr (λ c x.
            goes.numbers w.0 c w.1 (get_front own later 0 c x) w.2 ∙ ap (λ m. wrapped (c.pdu.number + m)) (next_at p xs (a ∷ rest) s own later goes r.2.place w.0 w.1 w.2 w.3 (omega arith)))
      ],
    )

-- the numbers of a list, and the next
pub counted : (p : Parameters) (xs : List Packet) (s : Side) (own : List FirstCopy) (d : RedundancyPdu) → IsSent p xs s own → d.number < 2 ^ 32
    → ((c : FirstCopy) → slice_get own 0 ≡ Some c → d.number ≡ wrapped (c.pdu.number + length own)) → (f : ℕ) × Counts_from f own × (d.number ≡ wrapped (f + length own))
counted p xs s [] d h l next = (d.number, λ i c g. absurd (cc), omega arith)
counted p xs s (x ∷ own) d h l next = (x.pdu.number, λ i c g. h.numbers i x c refl g, next x refl)

pub definite : (p : Parameters) (valid : AreParameters p) (ws : List World) (w : World) (xs rest : List Packet) (a : Packet) (own : List FirstCopy) → Reaches p ws w → w.crossed ≡ xs ++ a ∷ rest → IsSent p xs a.side own → length own < 2 ^ 32 → CanFollow p xs a.side own a
definite p valid ws w xs rest a own r e h l = (let g = told_by p valid ws w a.side r in can_follow p xs rest a.side own a h l refl g.own (subst (λ zs. IsSent p zs a.side g.own) e g.sends.sent))
