-- A list with one element more between its others.
use Rattle.std.proofs.Common.{◌≡◌, ℕ, zero, suc, ◌<◌, ◌≤◌, List, [], ◌∷◌, length, Some, slice_get, refl, ap, arith}
use Rattle.std.specs.List.{insert}

-- where an element of the longer list stands: before the new one, as it, or behind it
pub data Stands {A : Type 0} (xs : List A) (n : ℕ) (y : A) (i : ℕ) (a : A) : Type 0 where
  before : i < n → slice_get xs i ≡ Some a → Stands xs n y i a
  here : i ≡ n → y ≡ a → Stands xs n y i a
  behind : (j : ℕ) → i ≡ suc j → n ≤ j → slice_get xs j ≡ Some a → Stands xs n y i a

moved : {A : Type 0} (x : A) (xs : List A) (n : ℕ) (y : A) (i : ℕ) (a : A) → Stands xs n y i a → Stands (x ∷ xs) (suc n) y (suc i) a
moved x xs n y i a (before l e) = before (omega arith) e
moved x xs n y i a (here e f) = here (ap suc e) f
moved x xs n y i a (behind j e l g) = behind (suc j) (ap suc e) (omega arith) g

pub insert_cases : {A : Type 0} (xs : List A) (n : ℕ) (y : A) (i : ℕ) (a : A) → n ≤ length xs → slice_get (insert xs n y) i ≡ Some a → Stands xs n y i a
insert_cases xs zero y zero a l e = here refl (cc)
insert_cases xs zero y (suc i) a l e = behind i refl (omega arith) e
insert_cases [] (suc n) y i a l e = absurd (omega arith)
insert_cases (x ∷ xs) (suc n) y zero a l e = before (omega arith) e
insert_cases (x ∷ xs) (suc n) y (suc i) a l e = moved x xs n y i a (insert_cases xs n y i a (omega arith) e)

-- the new one is there, and each of the others
pub insert_here : {A : Type 0} (xs : List A) (n : ℕ) (y : A) → n ≤ length xs → slice_get (insert xs n y) n ≡ Some y
insert_here xs zero y l = refl
insert_here [] (suc n) y l = absurd (omega arith)
insert_here (x ∷ xs) (suc n) y l = insert_here xs n y (omega arith)

pub insert_keeps : {A : Type 0} (xs : List A) (n : ℕ) (y : A) (i : ℕ) (a : A) → n ≤ length xs → slice_get xs i ≡ Some a → (j : ℕ) × (slice_get (insert xs n y) j ≡ Some a)
insert_keeps xs zero y i a l e = (suc i, e)
insert_keeps [] (suc n) y i a l e = absurd (omega arith)
insert_keeps (x ∷ xs) (suc n) y zero a l e = (zero, e)
insert_keeps (x ∷ xs) (suc n) y (suc i) a l e = (let w = insert_keeps xs n y i a (omega arith) e in (suc w.0, w.1))
