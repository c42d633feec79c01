-- The places of proofs that confirmations add, and the units that have one.
use Rattle.std.proofs.Common.{◌≡◌, ℕ, zero, suc, ◌+◌, ◌-◌, ◌<◌, ◌≤◌, ◌⊎◌, inl, inr, List, [], ◌∷◌, ◌++◌, length, replicate, Option, Some, None, IsSome, slice_get, refl, ap, sym, ◌∙◌, subst, arith, length-append}
use Rattle.std.proofs.Math.ListN.{length-replicate}
use Rattle.std.proofs.lemmas.Option.{slice_get_within}
use Rattle.rasta_end.specs.State.{ahead_by}
use Rattle.rasta_check.specs.Internals.Listing.{with_proofs}
use Rattle.rasta_check.proofs.Lists.{slice_get_some, get_front}
use Rattle.rasta_check.specs.declared.sights.Sight.{Sight}
use Rattle.rasta_check.specs.declared.sights.Confirmation.{Confirmation}
use Rattle.rasta_check.specs.declared.sights.ShownUnit.{ShownUnit}
use Rattle.rasta_check.specs.Internals.Conveyed.{conveyed_through, proofs_by, unit_of, AreUnits}

-- ---- one confirmation

repeated : (n x q y : ℕ) → slice_get (replicate n x) q ≡ Some y → (x ≡ y) × (q < n)
repeated zero x q y g = absurd (omega (arith, slice_get_within [] q y g))
repeated (suc n) x zero y g = ((cc), omega arith)
repeated (suc n) x (suc q) y g = (let r = repeated n x q y g in (r.0, omega (arith, r.1)))

added : (places : List ℕ) (n x q y : ℕ) → slice_get (places ++ replicate n x) q ≡ Some y → (slice_get places q ≡ Some y) ⊎ ((x ≡ y) × (length places ≤ q) × (q < length places + n))
added [] n x q y g = (let r = repeated n x q y g in inr (r.0, omega arith, omega (arith, r.1)))
added (z ∷ places) n x zero y g = inl g
added (z ∷ places) n x (suc q) y g =
    elim (added places n x q y g) [
      | inl old ↦ inl old
      | inr new ↦ inr (new.0, omega (arith, new.1), omega (arith, new.2))
    ]

with_cases : (places : List ℕ) (shown x q y : ℕ) → slice_get (with_proofs places shown x) q ≡ Some y → (slice_get places q ≡ Some y) ⊎ ((x ≡ y) × (q < shown))
with_cases places shown x q y g =
    elim (added places (shown - length places) x q y g) [
      | inl old ↦ inl old
      | inr new ↦ inr (new.0, omega (arith, new.1, new.2))
    ]

with_there : (places : List ℕ) (shown x q : ℕ) → q < shown → (y : ℕ) × (slice_get (with_proofs places shown x) q ≡ Some y)
with_there places shown x q l =
    slice_get_some (with_proofs places shown x) q
    (omega (arith, l, length-append places (replicate (shown - length places) x), length-replicate {A = ℕ} (shown - length places) x))

-- ---- all of them

module _ (base : ℕ) (sights : List Sight) where
  -- how many data a confirmation shows
  abbrev shown : Confirmation → ℕ
  shown c = conveyed_through sights (ahead_by c.cs base)

  -- a confirmation that shows a unit, at a place
  pub record IsProof (confirmations : List Confirmation) (unit place : ℕ) : Type 0 where
    pub index : ℕ
    pub confirmation : Confirmation
    pub there : slice_get confirmations index ≡ Some confirmation
    pub same : confirmation.place ≡ place
    pub shows : unit < conveyed_through sights (ahead_by confirmation.cs base)

  kept : (confirmations : List Confirmation) (places : List ℕ) (q y : ℕ) → slice_get places q ≡ Some y → slice_get (proofs_by base sights places confirmations) q ≡ Some y
  unfolding proofs_by
  kept [] places q y g = g
  kept (c ∷ confirmations) places q y g = kept confirmations (with_proofs places (shown c) c.place) q y (get_front places (replicate (shown c - length places) c.place) q y g)

  -- each place is that of a proof
  pub proof_there : (confirmations : List Confirmation) (places : List ℕ) (q y : ℕ) → slice_get (proofs_by base sights places confirmations) q ≡ Some y
      → (slice_get places q ≡ Some y) ⊎ IsProof confirmations q y
  unfolding proofs_by
  proof_there [] places q y g = inl g
  proof_there (c ∷ confirmations) places q y g =
      elim (proof_there confirmations (with_proofs places (shown c) c.place) q y g) [
        | inl by ↦ elim (with_cases places (shown c) c.place q y by) [
          | inl old ↦ inl old
          | inr new ↦ inr (record { index = 0; confirmation = c; there = refl; same = new.0; shows = new.1 })
        ]
        | inr more ↦ inr (record { index = suc more.index; confirmation = more.confirmation; there = more.there; same = more.same; shows = more.shows })
      ]

  -- each unit that a confirmation shows has a proof, which is no later
  pub proved : (confirmations : List Confirmation) (places : List ℕ) (i : ℕ) (c : Confirmation) (q : ℕ) → slice_get confirmations i ≡ Some c → q < conveyed_through sights (ahead_by c.cs base)
      → ((j : ℕ) (x : Confirmation) → j ≤ i → slice_get confirmations j ≡ Some x → x.place ≤ c.place)
      → ((r y : ℕ) → slice_get places r ≡ Some y → y ≤ c.place)
      → (y : ℕ) × (slice_get (proofs_by base sights places confirmations) q ≡ Some y) × (y ≤ c.place)
  unfolding proofs_by
  proved [] places i c q g l before old = absurd (omega (arith, slice_get_within [] i c g))
  proved (x ∷ confirmations) places zero c q g l before old =
      let one : x ≡ c = cc in
      let same : shown c ≡ shown x = ap shown (sym one) in
      let y = with_there places (shown x) x.place q (omega (arith, l, same)) in (
        y.0,
        kept confirmations (with_proofs places (shown x) x.place) q y.0 y.1,
        elim (with_cases places (shown x) x.place q y.0 y.1) [
          | inl there ↦ old q y.0 there
          | inr new ↦ omega (arith, new.0, before 0 x (omega arith) refl)
        ],
      )
  proved (x ∷ confirmations) places (suc i) c q g l before old =
      proved confirmations (with_proofs places (shown x) x.place) i c q g l (λ j z m h. before (suc j) z (omega (arith, m)) h)
      (λ r y h. elim (with_cases places (shown x) x.place r y h) [
        | inl there ↦ old r y there
        | inr new ↦ omega (arith, new.0, before 0 x (omega arith) refl)
      ])

-- ---- units

-- a unit is that of data, with the place of its proof
pub record IsUnitOf (data_sights : List Sight) (places : List ℕ) (i : ℕ) (u : ShownUnit) : Type 0 where
  pub sight : Sight
  pub data_there : slice_get data_sights i ≡ Some sight
  pub data_place : sight.place ≡ u.data_place
  pub proof_place : slice_get places i ≡ u.proof_place
  pub messages : sight.messages ≡ u.messages

pub unit_at : (data_sights : List Sight) (places : List ℕ) (units : List ShownUnit) → AreUnits data_sights places units → (i : ℕ) (u : ShownUnit) → slice_get units i ≡ Some u
    → IsUnitOf data_sights places i u
unit_at data_sights places units a i u g =
    let d = slice_get_some data_sights i (omega (arith, a.count, slice_get_within units i u g)) in
    let both : Some (unit_of d.0 (slice_get places i)) ≡ Some u = sym (a.each i d.0 d.1) ∙ g in
    let one : unit_of d.0 (slice_get places i) ≡ u = cc in
    record { sight = d.0; data_there = d.1; data_place = ap (λ (v : ShownUnit). v.data_place) one; proof_place = ap (λ (v : ShownUnit). v.proof_place) one; messages = ap (λ (v : ShownUnit). v.messages) one }

-- the first ones have a proof
pub first_proved : (places : List ℕ) (i j : ℕ) → i < j → IsSome (slice_get places j) → IsSome (slice_get places i)
first_proved places i j l h = some_there (slice_get places j) refl h
  where
    some_there : (o : Option ℕ) → slice_get places j ≡ o → IsSome o → IsSome (slice_get places i)
    some_there None g h = absurd (cc)
    some_there (Some y) g h =
        let x = slice_get_some places i (omega (arith, l, slice_get_within places j y g)) in
        subst IsSome (sym x.1) refl

-- ---- a list that grows

-- the units of the data so far
pub record AreFirstUnits (data_sights : List Sight) (places : List ℕ) (index : ℕ) (units : List ShownUnit) : Type 0 where
  pub count : length units ≡ index
  pub each : (i : ℕ) (s : Sight) → i < index → slice_get data_sights i ≡ Some s → slice_get units i ≡ Some (unit_of s (slice_get places i))
