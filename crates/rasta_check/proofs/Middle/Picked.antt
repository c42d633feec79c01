-- Members of a list of which some are picked, each with what is made of it.
use Rattle.std.proofs.Common.{◌≡◌, ℕ, zero, suc, ◌<◌, ◌≤◌, ◌⊎◌, inl, inr, List, [], ◌∷◌, ◌++◌, length, drop, Option, Some, None, slice_get, refl, ap, ◌∙◌, arith, append-nil}
use Rattle.std.proofs.lemmas.List.{drop_all}
use Rattle.std.proofs.lemmas.Option.{slice_get_within}
use Rattle.std.specs.List.{filter_map, cons_option}

-- the position behind one that is there
shift : {B : Type 0} → Option B → ℕ → ℕ
shift None i = i
shift (Some y) i = suc i

cons_cases : {B : Type 0} (o : Option B) (ys : List B) (i : ℕ) (y : B) → slice_get (cons_option o ys) i ≡ Some y
    → ((i ≡ 0) × (o ≡ Some y)) ⊎ ((j : ℕ) × (slice_get ys j ≡ Some y) × (i ≡ shift o j))
unfolding shift
cons_cases None ys i y g = inr (i, g, refl)
cons_cases (Some z) ys zero y g = inl (refl, g)
cons_cases (Some z) ys (suc i) y g = inr (i, g, refl)

cons_first : {B : Type 0} (o : Option B) (ys : List B) (y : B) → o ≡ Some y → slice_get (cons_option o ys) 0 ≡ Some y
cons_first None ys y e = absurd (cc)
cons_first (Some z) ys y e = e

cons_rest : {B : Type 0} (o : Option B) (ys : List B) (i : ℕ) (y : B) → slice_get ys i ≡ Some y → slice_get (cons_option o ys) (shift o i) ≡ Some y
unfolding shift
cons_rest None ys i y g = g
cons_rest (Some z) ys i y g = g

shift_order : {B : Type 0} (o : Option B) (i j : ℕ) → shift o i < shift o j → i < j
unfolding shift
shift_order None i j l = l
shift_order (Some z) i j l = omega arith

-- ---- what is picked

-- what was made of a member
pub record IsPicked {A B : Type 0} (f : A → Option B) (xs : List A) (y : B) : Type 0 where
  pub index : ℕ
  pub member : A
  pub there : slice_get xs index ≡ Some member
  pub made : f member ≡ Some y

behind_one : {A B : Type 0} (f : A → Option B) (x : A) (xs : List A) (y : B) → IsPicked f xs y → IsPicked f (x ∷ xs) y
behind_one f x xs y m = record { index = suc m.index; member = m.member; there = m.there; made = m.made }

pub picked : {A B : Type 0} (f : A → Option B) (xs : List A) (i : ℕ) (y : B) → slice_get (filter_map f xs) i ≡ Some y → IsPicked f xs y
picked f [] i y g = absurd (omega (arith, slice_get_within [] i y g))
picked f (x ∷ xs) i y g =
    elim (cons_cases (f x) (filter_map f xs) i y g) [
      | inl first ↦ record { index = 0; member = x; there = refl; made = first.1 }
      | inr rest ↦ behind_one f x xs y (picked f xs rest.0 y rest.1)
    ]

-- two that are picked, in the order of their members
pub record ArePicked {A B : Type 0} (f : A → Option B) (xs : List A) (y z : B) : Type 0 where
  pub one : IsPicked f xs y
  pub other : IsPicked f xs z
  pub order : one.index < other.index

pub both_picked : {A B : Type 0} (f : A → Option B) (xs : List A) (i j : ℕ) (y z : B) → i < j → slice_get (filter_map f xs) i ≡ Some y → slice_get (filter_map f xs) j ≡ Some z
    → ArePicked f xs y z
unfolding behind_one
both_picked f [] i j y z l g h = absurd (omega (arith, slice_get_within [] i y g))
both_picked f (x ∷ xs) i j y z l g h =
    elim (cons_cases (f x) (filter_map f xs) j z h) [
      | inl none ↦ absurd (omega (arith, none.0, l))
      | inr last ↦ elim (cons_cases (f x) (filter_map f xs) i y g) [
        | inl first ↦
            let m = picked f xs last.0 z last.1 in
            record { one = record { index = 0; member = x; there = refl; made = first.1 }; other = behind_one f x xs z m; order = omega arith }
        | inr both ↦
            let m = both_picked f xs both.0 last.0 y z (shift_order (f x) both.0 last.0 (omega (arith, l, both.2, last.2))) both.1 last.1 in
            record { one = behind_one f x xs y m.one; other = behind_one f x xs z m.other; order = omega (arith, m.order) }
      ]
    ]

pub picked_there : {A B : Type 0} (f : A → Option B) (xs : List A) (i : ℕ) (x : A) (y : B) → slice_get xs i ≡ Some x → f x ≡ Some y → (k : ℕ) × (slice_get (filter_map f xs) k ≡ Some y)
picked_there f [] i x y g e = absurd (omega (arith, slice_get_within [] i x g))
picked_there f (z ∷ xs) zero x y g e = (let same : z ≡ x = cc in (0, cons_first (f z) (filter_map f xs) y (ap f same ∙ e)))
picked_there f (z ∷ xs) (suc i) x y g e = (let m = picked_there f xs i x y g e in (shift (f z) m.0, cons_rest (f z) (filter_map f xs) m.0 y m.1))

-- ---- what is picked of the rest, where nothing is left

pub picked_end : {A B : Type 0} (f : A → Option B) (xs : List A) (i : ℕ) (ys : List B) → length xs ≤ i → ys ++ filter_map f (drop i xs) ≡ ys
picked_end {B = B} f xs i ys l = ap (λ (zs : List B). ys ++ zs) (ap (filter_map f) (drop_all i xs l)) ∙ append-nil ys
