-- The sights of a side, with one packet more.
use Rattle.std.proofs.Common.{◌≡◌, ◌⊎◌, ℕ, suc, ◌+◌, ◌<◌, ◌≤◌, ◌^◌, List, [], ◌∷◌, ◌++◌, length, Some, slice_get, ap, sym, ◌∙◌, subst, arith, ⊎_elim, inl, inr}
use Rattle.std.specs.List.{insert}
use Rattle.rasta_check.proofs.Prelude.{Side, Packet, Parameters, RedundancyPdu, FirstCopy, Spells, messages_in, get_push}
use Rattle.rasta_end.specs.State.{ahead_by}
use Rattle.rasta_check.specs.Capture.SentLists.{IsCarried}
use Rattle.rasta_check.specs.declared.sights.Sight.{Sight}
use Rattle.rasta_check.specs.Middle.Sights.{AreSights}
use Rattle.rasta_check.specs.Internals.Sighting.{IsGap}
use Rattle.rasta_check.proofs.Lists.{RisesBy, rises_by}
use Rattle.rasta_check.proofs.Middle.Inserted.{before, here, behind, insert_cases, insert_here, insert_keeps}
use Rattle.rasta_check.proofs.Middle.Carried.{old, new, carried_more, carried_cases, carried_before}

-- ---- keys that rise

pub rises : (sights : List Sight) → RisesBy (λ (s : Sight). s.key) sights → (i j : ℕ) (s t : Sight) → i < j → slice_get sights i ≡ Some s → slice_get sights j ≡ Some t → s.key < t.key
rises sights r i j s t l g h = rises_by (λ (x : Sight). x.key) sights r i j s t g h l

-- ---- the same sights

-- a PDU has a sight
abbrev HasSight : ℕ → List Sight → FirstCopy → Type 0
HasSight base sights copy = (i : ℕ) × (s : Sight) × (slice_get sights i ≡ Some s) × (s.place ≤ copy.place)
    × (s.kind ≡ copy.pdu.safety.kind) × (s.key ≡ ahead_by copy.pdu.safety.sn base) × (s.messages ≡ length (messages_in copy.pdu.safety.body))

-- what a sight has of its PDU
abbrev pub IsSightOf : ℕ → RedundancyPdu → Sight → Type 0
IsSightOf base pdu s = (s.kind ≡ pdu.safety.kind) × (s.key ≡ ahead_by pdu.safety.sn base) × (s.messages ≡ length (messages_in pdu.safety.body))

module _ (p : Parameters) (packets : List Packet) (k : Packet) (side : Side) (base : ℕ) (sights : List Sight) (h : AreSights p packets side base sights) where
  same_with : ((copy : FirstCopy) → copy.place ≡ length packets → k.side ≡ side → Spells p side copy.pdu k.payload → HasSight base sights copy)
      → AreSights p (packets ++ k ∷ []) side base sights
  same_with last = record {
    sighted = λ i s g. (let w = h.sighted i s g in (w.0, carried_more p packets k side w.0 w.1, w.2, w.3, w.4, w.5));
    all = λ copy c. elim (carried_cases p packets k side copy c) [ old b ↦ h.all copy b | new place of_side spelled ↦ last copy place of_side spelled ];
    rising = h.rising;
    above = h.above;
    near = h.near;
  }

  -- a packet that spells no PDU of the side adds nothing
  pub sights_without : ((pdu : RedundancyPdu) → k.side ≡ side → Spells p side pdu k.payload → ⊥) → AreSights p (packets ++ k ∷ []) side base sights
  sights_without none = same_with (λ copy place of_side spelled. absurd (none copy.pdu of_side spelled))

  module _ (pdu : RedundancyPdu) (once : (other : RedundancyPdu) → Spells p side other k.payload → other ≡ pdu) where
    -- nor does a copy
    pub sights_with_copy : (i : ℕ) (s : Sight) → slice_get sights i ≡ Some s → IsSightOf base pdu s → AreSights p (packets ++ k ∷ []) side base sights
    sights_with_copy i s there told = same_with (λ copy place of_side spelled.
        let w = h.sighted i s there in
        let l = carried_before p packets k side w.0 w.1 in
        let same = subst (λ (d : RedundancyPdu). IsSightOf base d s) (sym (once copy.pdu spelled)) told in
        (i, s, there, omega (arith, l, place, w.2), same.0, same.1, same.2))

-- ---- one more

module _ (p : Parameters) (packets : List Packet) (k : Packet) (side : Side) (base : ℕ) (sights : List Sight) (h : AreSights p packets side base sights) (pdu : RedundancyPdu)
    (of_side : k.side ≡ side) (spelled : Spells p side pdu k.payload) (once : (other : RedundancyPdu) → Spells p side other k.payload → other ≡ pdu)
    (t : Sight) (place : t.place ≡ length packets) (told : IsSightOf base pdu t) (n : ℕ) (gap : IsGap sights t.key n) where
  abbrev newest : FirstCopy
  newest = record { place = length packets; pdu = pdu }

  newest_carried : IsCarried p (packets ++ k ∷ []) side newest
  newest_carried = record { packet = k; there = get_push packets k; of_side = of_side; spelled = spelled }

  abbrev all : List Sight
  all = insert sights n t

  abbrev IsSighted : Sight → Type 0
  IsSighted s = (copy : FirstCopy) × IsCarried p (packets ++ k ∷ []) side copy × (s.place ≡ copy.place)
      × (s.kind ≡ copy.pdu.safety.kind) × (s.key ≡ ahead_by copy.pdu.safety.sn base) × (s.messages ≡ length (messages_in copy.pdu.safety.body))

  still_sighted : (i : ℕ) (s : Sight) → slice_get sights i ≡ Some s → IsSighted s
  still_sighted i s e = (let w = h.sighted i s e in (w.0, carried_more p packets k side w.0 w.1, w.2, w.3, w.4, w.5))

  sighted_more : (i : ℕ) (s : Sight) → slice_get all i ≡ Some s → IsSighted s
  sighted_more i s g = elim (insert_cases sights n t i s gap.within g) [
    | before l e ↦ still_sighted i s e
    | here e f ↦ subst IsSighted f (newest, newest_carried, place, told.0, told.1, told.2)
    | behind j e l f ↦ still_sighted j s f
  ]

  all_more : (copy : FirstCopy) → IsCarried p (packets ++ k ∷ []) side copy → HasSight base all copy
  all_more copy c = elim (carried_cases p packets k side copy c) [
    | old b ↦ (let w = h.all copy b in let v = insert_keeps sights n t w.0 w.1 gap.within w.2 in (v.0, w.1, v.1, w.3, w.4, w.5, w.6))
    | new at x said ↦ (let same = subst (λ (d : RedundancyPdu). IsSightOf base d t) (sym (once copy.pdu said)) told in
        (n, t, insert_here sights n t gap.within, omega (arith, place, at), same.0, same.1, same.2))
  ]

  same_key : (s : Sight) → t ≡ s → t.key ≡ s.key
  same_key s e = ap (λ (x : Sight). x.key) e

  rising_more : (i : ℕ) (s next : Sight) → slice_get all i ≡ Some s → slice_get all (suc i) ≡ Some next → s.key < next.key
  rising_more i s next g f = elim (insert_cases sights n t i s gap.within g) [
    | before l e ↦ elim (insert_cases sights n t (suc i) next gap.within f) [
      | before l2 e2 ↦ h.rising i s next e e2
      | here e2 f2 ↦ omega (arith, gap.below i s e l, same_key next f2)
      | behind j e2 l2 f2 ↦ absurd (omega arith)
    ]
    | here e f3 ↦ elim (insert_cases sights n t (suc i) next gap.within f) [
      | before l2 e2 ↦ absurd (omega arith)
      | here e2 f2 ↦ absurd (omega arith)
      | behind j e2 l2 f2 ↦ omega (arith, gap.above j next f2 l2, same_key s f3)
    ]
    | behind j e l f3 ↦ elim (insert_cases sights n t (suc i) next gap.within f) [
      | before l2 e2 ↦ absurd (omega arith)
      | here e2 f2 ↦ absurd (omega arith)
      | behind j2 e2 l2 f2 ↦ h.rising j s next f3 (let same : suc j ≡ j2 = omega arith in ap (slice_get sights) same ∙ f2)
    ]
  ]

  -- each sight is one that was there, or the new one
  each : (i : ℕ) (s : Sight) → slice_get all i ≡ Some s → ((j : ℕ) × (slice_get sights j ≡ Some s)) ⊎ (t ≡ s)
  each i s g = elim (insert_cases sights n t i s gap.within g) [ before l e ↦ inl (i, e) | here e f ↦ inr f | behind j e l f ↦ inl (j, f) ]

  pub sights_with_new : 0 < t.key → ((i : ℕ) (s : Sight) → slice_get sights i ≡ Some s → (t.key < s.key + 2 ^ 31) × (s.key < t.key + 2 ^ 31)) → AreSights p (packets ++ k ∷ []) side base all
  sights_with_new positive close = record {
    sighted = sighted_more;
    all = all_more;
    rising = rising_more;
    above = λ i s g. ⊎_elim (λ (w : (j : ℕ) × (slice_get sights j ≡ Some s)). h.above w.0 s w.1) (λ (e : t ≡ s). omega (arith, same_key s e, positive)) (each i s g);
    near = λ i j s u g f.
        ⊎_elim
        (λ (w : (a : ℕ) × (slice_get sights a ≡ Some s)).
        ⊎_elim
        (λ (v : (b : ℕ) × (slice_get sights b ≡ Some u)). h.near w.0 v.0 s u w.1 v.1)
        (λ (e : t ≡ u). omega (arith, same_key u e, (close w.0 s w.1).1))
        (each j u f))
        (λ (d : t ≡ s).
        ⊎_elim
        (λ (v : (b : ℕ) × (slice_get sights b ≡ Some u)). omega (arith, same_key s d, (close v.0 u v.1).0))
        (λ (e : t ≡ u). omega (arith, same_key s d, same_key u e))
        (each j u f))
        (each i s g);
  }
