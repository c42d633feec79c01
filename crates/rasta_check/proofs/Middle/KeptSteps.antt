-- What is kept of a side, with one packet more.
use Rattle.std.proofs.Common.{◌≡◌, ◌⊎◌, ℕ, zero, suc, ◌+◌, ◌-◌, ◌<◌, ◌≤◌, ◌^◌, Bool, true, false, List, [], ◌∷◌, ◌++◌, length, Some, slice_get, refl, ap, sym, ◌∙◌, subst, arith, ⊎_elim, inl, inr}
use Rattle.std.specs.List.{insert}
use Rattle.rasta_check.proofs.Prelude.{nat_tests, not, nat_lt, ◌&&◌, ◌||◌, ◌==◌, Side, Packet, Parameters, RedundancyPdu, FirstCopy, Spells, messages_in, is_kind, ConnectionRequest, get_push, slice_get_some, slice_get_within, dec_lt, yes, no}
use Rattle.rasta_end.specs.State.{ahead_by}
use Rattle.rasta_check.specs.Capture.SentLists.{IsCarried}
use Rattle.rasta_check.specs.declared.sights.Sight.{Sight}
use Rattle.rasta_check.specs.declared.sights.Confirmation.{Confirmation}
use Rattle.rasta_check.specs.Middle.Sights.{AreSights, AreConfirmations}
use Rattle.rasta_check.specs.Middle.Kept.{KeptPdus, IsEarliest, IsKept, HoldTogether, IsRecent, is_opening, nothing_kept, offset_of}
use Rattle.rasta_check.specs.Internals.Sighting.{Agree, IsNear, HasKey, IsCopy, IsNew, Contradicts, SightsWith, ConfirmationsWith, ConfirmsNothingNew, Repeats, IsKeptWith, base_of, base_with, first_ts_of, follows_all, follows_kept, is_no_later_opening, sight_with, confirmation_of}
use Rattle.rasta_check.proofs.Middle.Inserted.{before, here, behind, insert_cases, insert_here, insert_keeps}
use Rattle.rasta_check.proofs.Middle.Carried.{old, new, carried_more, carried_cases, carried_before}
use Rattle.rasta_check.proofs.Middle.SightSteps.{rises, sights_without, sights_with_copy, sights_with_new}
use Rattle.rasta_check.proofs.Middle.ConfirmationSteps.{confirmations_without, confirmations_with_request, confirmations_with_copy, confirmations_with_new}
use Rattle.rasta_check.proofs.Middle.Nearness.{near_by_first, same_sn, first_ahead, ahead_of_least, recent_by_keys, keys_by_recent, recent_self}

no_element : {A : Type 0} (i : ℕ) (a : A) → slice_get [] i ≡ Some a → ⊥
no_element i a e = cc

is_false : (b : Bool) → (b ≡ true → ⊥) → b ≡ false
is_false true n = absurd (n refl)
is_false false n = refl

-- ---- another connection

-- a PDU follows those that were captured before
record Follows (offset first_ts : ℕ) (pdu : RedundancyPdu) : Type 0 where
  numbered : offset_of pdu ≡ offset
  opening : is_opening pdu.safety.kind ≡ true → ahead_by first_ts pdu.safety.ts < 2 ^ 31

abbrev FollowsAll : List Sight → ℕ → ℕ → RedundancyPdu → Type 0
FollowsAll [] offset first_ts pdu = Unit {0}
FollowsAll (s ∷ sights) offset first_ts pdu = Follows offset first_ts pdu

opening_told : (opens : Bool) (a : ℕ) → (not opens || nat_lt a (2 ^ 31)) ≡ true → opens ≡ true → a < 2 ^ 31
opening_told opens a h e = grind (arith, nat_tests)

tells_opening : (opens : Bool) (a : ℕ) → (opens ≡ true → a < 2 ^ 31) → (not opens || nat_lt a (2 ^ 31)) ≡ true
tells_opening true a h = (let less = h refl in grind (arith, nat_tests))
tells_opening false a h = refl

both_told : (a b : ℕ) (c : Bool) → ((a == b) && c) ≡ true → (a ≡ b) × (c ≡ true)
both_told a b c h = grind (arith, nat_tests)

tells_both : (a b : ℕ) (c : Bool) → a ≡ b → c ≡ true → ((a == b) && c) ≡ true
tells_both a b c e f = grind (arith, nat_tests)

told : (sights : List Sight) (offset first_ts : ℕ) (pdu : RedundancyPdu) → follows_all sights offset first_ts pdu ≡ true → FollowsAll sights offset first_ts pdu
told [] offset first_ts pdu h = tt
told (s ∷ sights) offset first_ts pdu h =
    let both = both_told (offset_of pdu) offset (is_no_later_opening first_ts pdu) h in
    record { numbered = both.0; opening = opening_told (is_opening pdu.safety.kind) (ahead_by first_ts pdu.safety.ts) both.1 }

tells : (sights : List Sight) (offset first_ts : ℕ) (pdu : RedundancyPdu) → FollowsAll sights offset first_ts pdu → follows_all sights offset first_ts pdu ≡ true
tells [] offset first_ts pdu w = refl
tells (s ∷ sights) offset first_ts pdu w =
    tells_both (offset_of pdu) offset (is_no_later_opening first_ts pdu) w.numbered
    (tells_opening (is_opening pdu.safety.kind) (ahead_by first_ts pdu.safety.ts) w.opening)

-- a TS isn't ahead of itself
not_ahead : (ts : ℕ) → ahead_by ts ts < 2 ^ 31
not_ahead ts = omega arith

-- ---- the base

-- the sight in the middle is the one that was captured first
abbrev Middle : List Sight → Type 0
Middle sights = (i : ℕ) × (s : Sight) × (slice_get sights i ≡ Some s) × (s.key ≡ 2 ^ 31)
    × ((j : ℕ) (t : Sight) → slice_get sights j ≡ Some t → s.place ≤ t.place)

abbrev HasMiddle : List Sight → Type 0
HasMiddle sights = (sights ≡ []) ⊎ Middle sights

-- no key is 2^31 or more from another
abbrev IsCloseTo : List Sight → ℕ → Type 0
IsCloseTo sights key = (i : ℕ) (s : Sight) → slice_get sights i ≡ Some s → (key < s.key + 2 ^ 31) × (s.key < key + 2 ^ 31)

-- as long as nothing is kept, any base will do
rebased : (p : Parameters) (packets : List Packet) (side : Side) (base sn : ℕ) (sights : List Sight) → AreSights p packets side base sights → AreSights p packets side (base_of sights base sn) sights
rebased p packets side base sn [] h = record {
  sighted = λ i s g. absurd (no_element i s g);
  all = λ copy c. (let w = h.all copy c in absurd (no_element w.0 w.1 w.2));
  rising = h.rising;
  above = h.above;
  near = h.near;
}
rebased p packets side base sn (s ∷ sights) h = h

-- no key is 0
positive : (sights : List Sight) (base sn : ℕ) → HasMiddle sights → IsCloseTo sights (ahead_by sn (base_of sights base sn)) → 0 < ahead_by sn (base_of sights base sn)
positive [] base sn m c = omega (arith, first_ahead sn)
positive (s ∷ sights) base sn m c =
    ⊎_elim
    (λ (e : s ∷ sights ≡ []). absurd (cc))
    (λ (w : Middle (s ∷ sights)). omega (arith, (c w.0 w.1 w.2).1, w.3))
    m

-- a place that is no later than those of the others is no later than those with one more
no_later_more : (sights : List Sight) (t : Sight) (n place : ℕ) → n ≤ length sights → place ≤ t.place → ((j : ℕ) (s : Sight) → slice_get sights j ≡ Some s → place ≤ s.place)
    → (j : ℕ) (s : Sight) → slice_get (insert sights n t) j ≡ Some s → place ≤ s.place
no_later_more sights t n place l late others j s g = elim (insert_cases sights n t j s l g) [
  | before m e ↦ others j s e
  | here e f ↦ omega (arith, late, ap (λ (x : Sight). x.place) f)
  | behind i e m f ↦ others i s f
]

middle_more : (sights : List Sight) (base sn : ℕ) (t : Sight) (n : ℕ) → n ≤ length sights → t.key ≡ ahead_by sn (base_of sights base sn)
    → ((i : ℕ) (s : Sight) → slice_get sights i ≡ Some s → s.place ≤ t.place) → HasMiddle sights → HasMiddle (insert sights n t)
middle_more [] base sn t n l e late m =
    inr (n, t, insert_here [] n t l, e ∙ first_ahead sn, no_later_more [] t n t.place l (omega arith) (λ j s g. absurd (no_element j s g)))
middle_more (s ∷ sights) base sn t n l e late m =
    ⊎_elim
    (λ (z : s ∷ sights ≡ []). absurd (cc))
    (λ (w : Middle (s ∷ sights)).
    let v = insert_keeps (s ∷ sights) n t w.0 w.1 l w.2 in
    inr (v.0, w.1, v.1, w.3, no_later_more (s ∷ sights) t n w.1.place l (late w.0 w.1 w.2) w.4))
    m

-- ---- nearness

module _ (p : Parameters) (packets : List Packet) (side : Side) (base : ℕ) (sights : List Sight) (h : AreSights p packets side base sights) where
  -- the last key is the greatest
  below_last : (key : ℕ) → IsNear sights key → (i : ℕ) (s : Sight) → slice_get sights i ≡ Some s → s.key < key + 2 ^ 12
  below_last key near i s g =
      let within = slice_get_within sights i s g in
      let last = slice_get_some sights (length sights - 1) (omega (arith, within)) in
      elim (dec_lt i (length sights - 1)) [
        | yes l ↦ omega (arith, near.to_last last.0 last.1, rises sights h.rising i (length sights - 1) s last.0 l g last.1)
        | no l ↦ (let z : i ≡ length sights - 1 = omega (arith, l, within) in near.to_last s (ap (slice_get sights) (sym z) ∙ g))
      ]

  -- what holds of the first and the last holds of all between them
  close_to : (key : ℕ) → IsNear sights key → IsCloseTo sights key
  close_to key near i s g =
      let within = slice_get_within sights i s g in
      let first = slice_get_some sights 0 (omega (arith, within)) in (
        elim (dec_lt 0 i) [
          | yes l ↦ omega (arith, near.from_first first.0 first.1, rises sights h.rising 0 i first.0 s l first.1 g)
          | no l ↦ (let z : i ≡ 0 = omega (arith, l) in near.from_first s (ap (slice_get sights) (sym z) ∙ g))
        ],
        omega (arith, below_last key near i s g),
      )

  -- a key stands at one position
  same_sight : (i j : ℕ) (s t : Sight) → slice_get sights i ≡ Some s → slice_get sights j ≡ Some t → s.key ≡ t.key → s ≡ t
  same_sight i j s t g f e = elim (dec_lt i j) [
    | yes l ↦ absurd (omega (arith, rises sights h.rising i j s t l g f, e))
    | no l ↦ elim (dec_lt j i) [
      | yes m ↦ absurd (omega (arith, rises sights h.rising j i t s m f g, e))
      | no m ↦ (let same : i ≡ j = omega (arith, l, m) in let z = ap (slice_get sights) same in cc)
    ]
  ]

-- ---- PDUs that are held together

module _ (p : Parameters) (packets : List Packet) (side : Side) where
  -- the first key is the least
  least_first : (base : ℕ) (s : Sight) (sights : List Sight) → AreSights p packets side base (s ∷ sights) → (i : ℕ) (t : Sight) → slice_get (s ∷ sights) i ≡ Some t → s.key ≤ t.key
  least_first base s sights h zero t g = (let e : s ≡ t = cc in omega (arith, ap (λ (x : Sight). x.key) e))
  least_first base s sights h (suc i) t g = omega (arith, rises (s ∷ sights) h.rising 0 (suc i) s t (omega arith) refl g)

  first_sn_of : (base : ℕ) (sights : List Sight) → AreSights p packets side base sights → (first : ℕ) × ((copy : FirstCopy) → IsCarried p packets side copy → ahead_by copy.pdu.safety.sn first < 2 ^ 31)
  first_sn_of base [] h = (0, λ copy c. (let w = h.all copy c in absurd (no_element w.0 w.1 w.2)))
  first_sn_of base (s ∷ sights) h = (
    base + s.key,
    λ copy c.
        let w = h.all copy c in
        ahead_of_least copy.pdu.safety.sn base s.key (omega (arith, least_first base s sights h w.0 w.1 w.2, w.5)) (omega (arith, h.near w.0 0 w.1 s w.2 refl, w.5)),
  )

  -- PDUs with one SN have one sight
  one_sight : (kept : KeptPdus) → IsKept p packets side kept → (copy other : FirstCopy) → IsCarried p packets side copy → IsCarried p packets side other
      → copy.pdu.safety.sn ≡ other.pdu.safety.sn
      → (s : Sight) × ((copy.pdu.safety.kind ≡ s.kind) × (length (messages_in copy.pdu.safety.body) ≡ s.messages))
      × ((s.kind ≡ other.pdu.safety.kind) × (s.messages ≡ length (messages_in other.pdu.safety.body)))
  one_sight kept h copy other c d e =
      let w = h.sights.all copy c in
      let v = h.sights.all other d in
      let keys = w.5 ∙ ap (λ n. ahead_by n kept.base) e ∙ sym v.5 in
      let same = same_sight p packets side kept.base kept.sights h.sights w.0 v.0 w.1 v.1 w.2 v.2 keys in
      (w.1, (sym w.4, sym w.6), (ap (λ (x : Sight). x.kind) same ∙ v.4, ap (λ (x : Sight). x.messages) same ∙ v.6))

  -- what is kept shows that they can be
  pub holds_together : (kept : KeptPdus) → IsKept p packets side kept → HoldTogether p packets side
  holds_together kept h =
      let f = first_sn_of kept.base kept.sights h.sights in
      record {
        one_type = λ copy other c d e. (let w = one_sight kept h copy other c d e in w.1.0 ∙ w.2.0);
        one_count = λ copy other c d e. (let w = one_sight kept h copy other c d e in w.1.1 ∙ w.2.1);
        first = f.0;
        ahead = f.1;
        recent = h.recent;
        numbered = λ copy other c d. h.offset copy c ∙ sym (h.offset other d);
        opening = λ copy earliest c e o. subst (λ (ts : ℕ). ahead_by ts copy.pdu.safety.ts < 2 ^ 31) (sym (h.first_ts earliest e)) (h.opening copy c o);
      }

-- ---- one packet more

pub kept_from_start : (p : Parameters) (side : Side) → IsKept p [] side nothing_kept
kept_from_start p side = record {
  sights = record {
    sighted = λ i s g. absurd (no_element i s g);
    all = λ copy c. absurd (no_element copy.place c.packet c.there);
    rising = λ i s next g f. absurd (no_element i s g);
    above = λ i s g. absurd (no_element i s g);
    near = λ i j s t g f. absurd (no_element i s g);
  };
  confirmations = record {
    confirming = λ i c g. absurd (no_element i c g);
    all = λ copy c n. absurd (no_element copy.place c.packet c.there);
    rising = λ i c next g f. absurd (no_element i c g);
  };
  middle = inl refl;
  recent = λ copy other c. absurd (no_element copy.place c.packet c.there);
  offset = λ copy c. absurd (no_element copy.place c.packet c.there);
  first_ts = λ copy e. absurd (no_element copy.place e.carried.packet e.carried.there);
  opening = λ copy c. absurd (no_element copy.place c.packet c.there);
}

module _ (p : Parameters) (packets : List Packet) (k : Packet) (side : Side) (kept : KeptPdus) (h : IsKept p packets side kept) where
  -- a packet that spells no PDU of the side adds nothing
  old_of : ((pdu : RedundancyPdu) → k.side ≡ side → Spells p side pdu k.payload → ⊥) → (copy : FirstCopy) → IsCarried p (packets ++ k ∷ []) side copy → IsCarried p packets side copy
  old_of none copy c = elim (carried_cases p packets k side copy c) [ old b ↦ b | new at x y ↦ absurd (none copy.pdu x y) ]

  pub kept_without : ((pdu : RedundancyPdu) → k.side ≡ side → Spells p side pdu k.payload → ⊥) → IsKept p (packets ++ k ∷ []) side kept
  kept_without none = record {
    sights = sights_without p packets k side kept.base kept.sights h.sights none;
    confirmations = confirmations_without p packets k side kept.confirmations h.confirmations none;
    middle = h.middle;
    recent = λ copy other c d. h.recent copy other (old_of none copy c) (old_of none other d);
    offset = λ copy c. h.offset copy (old_of none copy c);
    first_ts = λ copy e. h.first_ts copy (record { carried = old_of none copy e.carried; earliest = λ other c. e.earliest other (carried_more p packets k side other c) });
    opening = λ copy c. h.opening copy (old_of none copy c);
  }

  module _ (copy : FirstCopy) (last : copy.place ≡ length packets) (of_side : k.side ≡ side) (spelled : Spells p side copy.pdu k.payload) (once : (other : RedundancyPdu) → Spells p side other k.payload → other ≡ copy.pdu) where
    abbrev base : ℕ
    base = base_with kept copy

    abbrev t : Sight
    t = sight_with kept copy

    sights_before : AreSights p packets side base kept.sights
    sights_before = rebased p packets side kept.base copy.pdu.safety.sn kept.sights h.sights

    carried_last : IsCarried p (packets ++ k ∷ []) side (record { place = length packets; pdu = copy.pdu })
    carried_last = record { packet = k; there = get_push packets k; of_side = of_side; spelled = spelled }

    abbrev SightsAndMiddle : List Sight → Type 0
    SightsAndMiddle sights = AreSights p (packets ++ k ∷ []) side base sights × HasMiddle sights

    no_later : (i : ℕ) (s : Sight) → slice_get kept.sights i ≡ Some s → s.place ≤ t.place
    no_later i s g = (let a = h.sights.sighted i s g in omega (arith, a.2, carried_before p packets k side a.0 a.1, last))

    sights_after : (sights : List Sight) → SightsWith kept.sights t sights → SightsAndMiddle sights
    sights_after sights w =
        ⊎_elim
        (λ (v : IsCopy kept.sights t × (sights ≡ kept.sights)).
        subst SightsAndMiddle (sym v.1) (sights_with_copy p packets k side base kept.sights sights_before copy.pdu once v.0.2.index v.0.1 v.0.2.there (v.0.3.0, v.0.2.same, v.0.3.1), h.middle))
        (λ (v : (position : ℕ) × IsNew kept.sights t position × (sights ≡ insert kept.sights position t)).
        let gap = v.1.2 h.sights.rising in
        let close = close_to p packets side base kept.sights sights_before t.key v.1.0 in
        subst SightsAndMiddle (sym v.2) (
          sights_with_new p packets k side base kept.sights sights_before copy.pdu of_side spelled once t last (refl, refl, refl) v.0 gap (positive kept.sights kept.base copy.pdu.safety.sn h.middle close) close,
          middle_more kept.sights kept.base copy.pdu.safety.sn t v.0 gap.within refl no_later h.middle,
        ))
        w

    abbrev Confirmations : List Confirmation → Type 0
    Confirmations cs = AreConfirmations p (packets ++ k ∷ []) side cs

    confirmations_after : (cs : List Confirmation) → ConfirmationsWith kept.confirmations copy cs → Confirmations cs
    confirmations_after cs w =
        ⊎_elim
        (λ (v : ConfirmsNothingNew kept.confirmations copy × (cs ≡ kept.confirmations)).
        subst Confirmations (sym v.1) (⊎_elim
        (λ (request : is_kind ConnectionRequest copy.pdu.safety.kind ≡ true). confirmations_with_request p packets k side kept.confirmations h.confirmations copy.pdu once (λ f. (let z = sym request ∙ f in cc)))
        (λ (again : Repeats kept.confirmations copy.pdu.safety.cs).
        confirmations_with_copy p packets k side kept.confirmations h.confirmations copy.pdu once (length kept.confirmations - 1) again.0 again.1 again.2)
        v.0))
        (λ (v : (ConfirmsNothingNew kept.confirmations copy → ⊥) × (cs ≡ kept.confirmations ++ confirmation_of copy ∷ [])).
        subst Confirmations (sym v.1) (confirmations_with_new p packets k side kept.confirmations h.confirmations copy.pdu once of_side spelled (is_false (is_kind ConnectionRequest copy.pdu.safety.kind) (λ r. v.0 (inl r))) (confirmation_of copy) last refl))
        w

    -- where its key is near, it lies little behind those before, or not behind them
    near_after : (sights : List Sight) → SightsWith kept.sights t sights → IsNear kept.sights t.key
    near_after sights w =
        ⊎_elim
        (λ (v : IsCopy kept.sights t × (sights ≡ kept.sights)). v.0.0)
        (λ (v : (position : ℕ) × IsNew kept.sights t position × (sights ≡ insert kept.sights position t)). v.1.0)
        w

    recent_last : IsNear kept.sights t.key → (other : FirstCopy) → IsCarried p packets side other → IsRecent copy.pdu.safety.sn other.pdu.safety.sn
    recent_last near other c =
        let v = sights_before.all other c in
        let behind = below_last p packets side base kept.sights sights_before t.key near v.0 v.1 v.2 in
        let close = close_to p packets side base kept.sights sights_before t.key near v.0 v.1 v.2 in
        recent_by_keys copy.pdu.safety.sn other.pdu.safety.sn base (omega (arith, behind, v.5)) (omega (arith, close.0, v.5))

    recent_after : IsNear kept.sights t.key → (one other : FirstCopy) → IsCarried p (packets ++ k ∷ []) side one → IsCarried p (packets ++ k ∷ []) side other
        → one.place ≤ other.place → IsRecent other.pdu.safety.sn one.pdu.safety.sn
    recent_after near one other c d l = elim (carried_cases p packets k side other d) [
      | old b ↦ elim (carried_cases p packets k side one c) [
        | old a ↦ h.recent one other a b l
        | new at x y ↦ absurd (omega (arith, at, l, carried_before p packets k side other b))
      ]
      | new at x y ↦ subst (λ (e : RedundancyPdu). IsRecent e.safety.sn one.pdu.safety.sn) (sym (once other.pdu y)) (elim (carried_cases p packets k side one c) [
        | old a ↦ recent_last near one a
        | new at2 x2 y2 ↦ subst (λ (e : RedundancyPdu). IsRecent copy.pdu.safety.sn e.safety.sn) (sym (once one.pdu y2)) (recent_self copy.pdu.safety.sn)
      ])
    ]

    -- one that was captured before has a sight
    absurd_old : kept.sights ≡ [] → (other : FirstCopy) → IsCarried p packets side other → ⊥
    absurd_old e other c = (let v = h.sights.all other c in no_element v.0 v.1 (ap (λ (xs : List Sight). slice_get xs v.0) (sym e) ∙ v.2))

    -- where some were captured before, the next one follows them
    follows_old : follows_kept kept copy ≡ true → (other : FirstCopy) → IsCarried p packets side other → Follows kept.offset kept.first_ts copy.pdu
    follows_old w other c = by kept.sights refl (told kept.sights kept.offset kept.first_ts copy.pdu w)
      where
        by : (sights : List Sight) → kept.sights ≡ sights → FollowsAll sights kept.offset kept.first_ts copy.pdu → Follows kept.offset kept.first_ts copy.pdu
        by [] e w = absurd (absurd_old e other c)
        by (s ∷ sights) e w = w

    offset_after : follows_kept kept copy ≡ true → (other : FirstCopy) → IsCarried p (packets ++ k ∷ []) side other → offset_of other.pdu ≡ offset_of copy.pdu
    offset_after w other c = elim (carried_cases p packets k side other c) [
      | old b ↦ h.offset other b ∙ sym (follows_old w other b).numbered
      | new at x y ↦ ap (λ (d : RedundancyPdu). ahead_by d.safety.sn d.number) (once other.pdu y)
    ]

    first_ts_after : (other : FirstCopy) → IsEarliest p (packets ++ k ∷ []) side other → other.pdu.safety.ts ≡ first_ts_of kept.sights kept.first_ts copy.pdu.safety.ts
    first_ts_after other e = by kept.sights refl
      where
        by : (sights : List Sight) → kept.sights ≡ sights → other.pdu.safety.ts ≡ first_ts_of sights kept.first_ts copy.pdu.safety.ts
        by [] z = elim (carried_cases p packets k side other e.carried) [
          | old b ↦ absurd (absurd_old z other b)
          | new at x y ↦ ap (λ (d : RedundancyPdu). d.safety.ts) (once other.pdu y)
        ]
        by (s ∷ sights) z =
            let v = h.sights.sighted 0 s (ap (λ (xs : List Sight). slice_get xs 0) z) in
            let before : v.0.place < length packets = carried_before p packets k side v.0 v.1 in
            elim (carried_cases p packets k side other e.carried) [
              | old b ↦ h.first_ts other (record { carried = b; earliest = λ another c. e.earliest another (carried_more p packets k side another c) })
              | new at x y ↦ absurd (omega (arith, at, before, e.earliest v.0 (carried_more p packets k side v.0 v.1)))
            ]

    opening_after : follows_kept kept copy ≡ true → (other : FirstCopy) → IsCarried p (packets ++ k ∷ []) side other → is_opening other.pdu.safety.kind ≡ true
        → ahead_by (first_ts_of kept.sights kept.first_ts copy.pdu.safety.ts) other.pdu.safety.ts < 2 ^ 31
    opening_after w other c o = by kept.sights refl (told kept.sights kept.offset kept.first_ts copy.pdu w)
      where
        Behind : ℕ → RedundancyPdu → Type 0
        Behind ts d = ahead_by ts d.safety.ts < 2 ^ 31

        by : (sights : List Sight) → kept.sights ≡ sights → FollowsAll sights kept.offset kept.first_ts copy.pdu → Behind (first_ts_of sights kept.first_ts copy.pdu.safety.ts) other.pdu
        by [] z f = elim (carried_cases p packets k side other c) [
          | old b ↦ absurd (absurd_old z other b)
          | new at x y ↦ subst (Behind copy.pdu.safety.ts) (sym (once other.pdu y)) (not_ahead copy.pdu.safety.ts)
        ]
        by (s ∷ sights) z f = elim (carried_cases p packets k side other c) [
          | old b ↦ h.opening other b o
          | new at x y ↦ subst (Behind kept.first_ts) (sym (once other.pdu y)) (f.opening (ap (λ (d : RedundancyPdu). is_opening d.safety.kind) (sym (once other.pdu y)) ∙ o))
        ]

    -- it spells one that is taken in
    pub kept_with : (all : KeptPdus) → IsKeptWith kept copy all → IsKept p (packets ++ k ∷ []) side all
    kept_with all w =
        let s = sights_after all.sights w.sights in
        record {
          sights = subst (λ b. AreSights p (packets ++ k ∷ []) side b all.sights) (sym w.base) s.0;
          confirmations = confirmations_after all.confirmations w.confirmations;
          middle = s.1;
          recent = recent_after (near_after all.sights w.sights);
          offset = λ other c. offset_after w.follows other c ∙ sym w.offset;
          first_ts = λ other e. first_ts_after other e ∙ sym w.first_ts;
          opening = λ other c o. subst (λ (ts : ℕ). ahead_by ts other.pdu.safety.ts < 2 ^ 31) (sym w.first_ts) (opening_after w.follows other c o);
        }

    near_middle : HoldTogether p (packets ++ k ∷ []) side → (i : ℕ) (s : Sight) → slice_get kept.sights i ≡ Some s → HasMiddle kept.sights → (t.key < s.key + 2 ^ 31) × (s.key < t.key + 2 ^ 31)
    near_middle holds i s g m =
        ⊎_elim
        (λ (e : kept.sights ≡ []). absurd (no_element i s (ap (λ (xs : List Sight). slice_get xs i) (sym e) ∙ g)))
        (λ (w : Middle kept.sights).
        let a = sights_before.sighted i s g in
        let b = sights_before.sighted w.0 w.1 w.2 in
        let la = holds.ahead a.0 (carried_more p packets k side a.0 a.1) in
        let lb = holds.ahead b.0 (carried_more p packets k side b.0 b.1) in
        let lt = holds.ahead (record { place = length packets; pdu = copy.pdu }) carried_last in
        let middle = sym b.4 ∙ w.3 in
        let up = near_by_first copy.pdu.safety.sn a.0.pdu.safety.sn b.0.pdu.safety.sn base holds.first lt la lb middle in
        let down = near_by_first a.0.pdu.safety.sn copy.pdu.safety.sn b.0.pdu.safety.sn base holds.first la lt lb middle in
        (omega (arith, up, a.4), omega (arith, down, a.4)))
        m

    little_behind : HoldTogether p (packets ++ k ∷ []) side → (i : ℕ) (s : Sight) → slice_get kept.sights i ≡ Some s → s.key < t.key + 2 ^ 12
    little_behind holds i s g =
        let a = sights_before.sighted i s g in
        let close = near_middle holds i s g h.middle in
        let recent = holds.recent a.0 (record { place = length packets; pdu = copy.pdu }) (carried_more p packets k side a.0 a.1) carried_last
        (omega (arith, carried_before p packets k side a.0 a.1)) in
        omega (arith, a.4, keys_by_recent copy.pdu.safety.sn a.0.pdu.safety.sn base (omega (arith, close.1, a.4)) (omega (arith, close.0, a.4)) recent)

    -- where it can be held together with those before, it follows them
    follows : HoldTogether p (packets ++ k ∷ []) side → follows_kept kept copy ≡ true
    follows holds = tells kept.sights kept.offset kept.first_ts copy.pdu (by kept.sights refl h.middle)
      where
        by : (sights : List Sight) → kept.sights ≡ sights → HasMiddle kept.sights → FollowsAll sights kept.offset kept.first_ts copy.pdu
        by [] z m = tt
        by (s ∷ sights) z m =
            ⊎_elim
            (λ (e : kept.sights ≡ []). (let both : s ∷ sights ≡ [] = sym z ∙ e in absurd (cc)))
            (λ (w : Middle kept.sights).
            let a = h.sights.sighted w.0 w.1 w.2 in
            let last : FirstCopy = record { place = length packets; pdu = copy.pdu } in
            let more = carried_more p packets k side a.0 a.1 in
            let earliest : (other : FirstCopy) → IsCarried p packets side other → a.0.place ≤ other.place = λ other c. (let v = h.sights.all other c in omega (arith, a.2, w.4 v.0 v.1 v.2, v.3)) in
            let earliest_more : (other : FirstCopy) → IsCarried p (packets ++ k ∷ []) side other → a.0.place ≤ other.place = λ other c.
            elim (carried_cases p packets k side other c) [ old b ↦ earliest other b | new at x y ↦ omega (arith, at, carried_before p packets k side a.0 a.1) ] in
            record {
              numbered = holds.numbered last a.0 carried_last more ∙ h.offset a.0 a.1;
              opening = λ o. subst (λ (ts : ℕ). ahead_by ts copy.pdu.safety.ts < 2 ^ 31) (h.first_ts a.0 (record { carried = a.1; earliest = earliest }))
                  (holds.opening last a.0 carried_last (record { carried = more; earliest = earliest_more }) o);
            })
            m

    -- it spells one that can't be held together with those before
    contradicted : Contradicts kept.sights t → HoldTogether p (packets ++ k ∷ []) side → ⊥
    contradicted w holds =
        ⊎_elim
        (λ (v : (s : Sight) × HasKey kept.sights t.key s × (Agree s t → ⊥)).
        let a = sights_before.sighted v.1.index v.0 v.1.there in
        let sns = same_sn a.0.pdu.safety.sn copy.pdu.safety.sn base a.1.spelled.fits.sn spelled.fits.sn (sym a.4 ∙ v.1.same) in
        let newest : FirstCopy = record { place = length packets; pdu = copy.pdu } in
        let before = carried_more p packets k side a.0 a.1 in
        v.2 (a.3 ∙ holds.one_type a.0 newest before carried_last sns, a.5 ∙ holds.one_count a.0 newest before carried_last sns))
        (λ (far : IsNear kept.sights t.key → ⊥).
        far (record {
          from_first = λ s g. (near_middle holds 0 s g h.middle).0;
          to_last = λ s g. little_behind holds (length kept.sights - 1) s g;
        }))
        w

    pub not_held : (follows_kept kept copy ≡ false) ⊎ Contradicts kept.sights t → HoldTogether p (packets ++ k ∷ []) side → ⊥
    not_held w holds =
        ⊎_elim
        (λ (n : follows_kept kept copy ≡ false). (let clash = sym (follows holds) ∙ n in absurd (cc)))
        (λ (c : Contradicts kept.sights t). contradicted c holds)
        w
