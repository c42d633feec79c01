-- Lists with one element more: their last one, and their neighbours.
use Rattle.std.proofs.Common.{◌≡◌, ◌≤◌, List, [], ◌∷◌, ◌++◌, length, Option, None, Some, ap, refl, arith}
use Rattle.std.specs.List.{last_or}
use Rattle.seatmelon_reading.specs.Times.{neighbours}

pub last_or-push : {A : Type 0} (o : Option A) (l : List A) (x : A) → last_or o (l ++ x ∷ []) ≡ Some x
last_or-push o [] x = refl
last_or-push o (y ∷ l) x = last_or-push (Some y) l x

-- the last one, if there is one, with the next
abbrev pub joined : {A : Type 0} → Option A → A → List (A × A)
joined None x = []
joined (Some y) x = (y, x) ∷ []

pub neighbours-push : {A : Type 0} (l : List A) (x : A) → neighbours (l ++ x ∷ []) ≡ neighbours l ++ joined (last_or None l) x
neighbours-push [] x = refl
neighbours-push (y ∷ []) x = refl
neighbours-push (y ∷ z ∷ l) x = ap (λ m. (y, z) ∷ m) (neighbours-push (z ∷ l) x)

pub length_neighbours-most : {A : Type 0} (l : List A) → length (neighbours l) ≤ length l
length_neighbours-most [] = omega arith
length_neighbours-most (y ∷ []) = omega arith
length_neighbours-most (y ∷ z ∷ l) = (let h = length_neighbours-most (z ∷ l) in omega (arith, h))
