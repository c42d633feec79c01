-- Elements of lists that grow at their end, are joined, mapped or cut.
use Rattle.std.proofs.Common.{◌≡◌, ℕ, zero, suc, ◌+◌, ◌-◌, ◌<◌, List, [], ◌∷◌, ◌++◌, length, take, drop, Option, Some, None, slice_get, map, refl, ap, sym, ◌∙◌, arith, ⊎_elim, subst, drop-cons}
use Rattle.std.specs.List.{AllByRecursion}
use Rattle.std.specs.Option.{option_map}
use Rattle.std.proofs.lemmas.List.{length-take, length-take-le, map-append, take_more, take-append-drop}
use Rattle.std.proofs.lemmas.Option.{get_or_from_slice_get, slice_get-map, slice_get_within}
use Rattle.rasta_end.proofs.Lists.{get_push_cases}
pub use Rattle.rasta_end.proofs.Lists.{get_push_cases, get_front, get_push, get_front_within}

-- what holds of each element, and of one more at the end, holds of each of the longer list
pub all_push : {A : Type 0} {P : ℕ → A → Type 0} (xs : List A) (y : A) → ((i : ℕ) (a : A) → slice_get xs i ≡ Some a → P i a) → P (length xs) y
    → (i : ℕ) (a : A) → slice_get (xs ++ y ∷ []) i ≡ Some a → P i a
all_push {P = P} xs y h last i a e =
    ⊎_elim
    (λ (old : slice_get xs i ≡ Some a). h i a old)
    (λ (new : (i ≡ length xs) × (y ≡ a)). subst (λ j. P j a) (sym new.0) (subst (P (length xs)) new.1 last))
    (get_push_cases xs y i a e)

-- a position within a list has an element
pub slice_get_some : {A : Type 0} (xs : List A) (k : ℕ) → k < length xs → (x : A) × (slice_get xs k ≡ Some x)
slice_get_some [] k l = absurd (omega arith)
slice_get_some (x ∷ xs) zero l = (x, refl)
slice_get_some (x ∷ xs) (suc k) l = slice_get_some xs k (omega arith)

pub none_within : {A : Type 0} (xs : List A) (i : ℕ) → i < length xs → None ≡ slice_get xs i → ⊥
none_within xs i l e = (let g = slice_get_some xs i l in let h = g.1 in cc)

-- what rises from each element to the next
abbrev pub RisesBy : {A : Type 0} → (A → ℕ) → List A → Type 0
RisesBy {A = A} f xs = (i : ℕ) (a b : A) → slice_get xs i ≡ Some a → slice_get xs (suc i) ≡ Some b → f a < f b

rises_over : {A : Type 0} (f : A → ℕ) (xs : List A) → RisesBy f xs → (d i : ℕ) (a b : A) → slice_get xs i ≡ Some a → slice_get xs (suc d + i) ≡ Some b → f a < f b
rises_over f xs h zero i a b x y = h i a b x (subst (λ (j : ℕ). slice_get xs j ≡ Some b) (omega arith) y)
rises_over f xs h (suc d) i a b x y =
    let mid = slice_get_some xs (suc d + i) (omega (arith, slice_get_within xs (suc (suc d) + i) b y)) in
    let low = rises_over f xs h d i a mid.0 x mid.1 in
    let high = h (suc d + i) mid.0 b mid.1 (subst (λ (j : ℕ). slice_get xs j ≡ Some b) (omega arith) y) in
    omega (arith, low, high)

-- rises from each to any later one
pub rises_by : {A : Type 0} (f : A → ℕ) (xs : List A) → RisesBy f xs → (i j : ℕ) (a b : A) → slice_get xs i ≡ Some a → slice_get xs j ≡ Some b → i < j → f a < f b
rises_by f xs h i j a b x y l = rises_over f xs h (j - suc i) i a b x (subst (λ (n : ℕ). slice_get xs n ≡ Some b) (omega arith) y)

-- ---- joined

-- behind a list comes the first of the next
pub get_next : {A : Type 0} (xs ys : List A) → slice_get (xs ++ ys) (length xs) ≡ slice_get ys 0
get_next [] ys = refl
get_next (x ∷ xs) ys = get_next xs ys

pub get_past : {A : Type 0} (xs ys : List A) (n : ℕ) → slice_get (xs ++ ys) (length xs + n) ≡ slice_get ys n
get_past [] ys n = ap (slice_get ys) (omega arith)
get_past (x ∷ xs) ys n = (let e : length (x ∷ xs) + n ≡ suc (length xs + n) = omega arith in ap (slice_get (x ∷ (xs ++ ys))) e ∙ get_past xs ys n)

-- a list that has each element of another begins with it
pub begins_with : {A : Type 0} (xs ys : List A) → ((k : ℕ) (a : A) → slice_get xs k ≡ Some a → slice_get ys k ≡ Some a) → (rest : List A) × (ys ≡ xs ++ rest)
begins_with [] ys h = (ys, refl)
begins_with (x ∷ xs) [] h = absurd (let z = h 0 x refl in cc)
begins_with (x ∷ xs) (y ∷ ys) h =
    let z : Some y ≡ Some x = h 0 x refl in
    let same : y ≡ x = cc in
    let r = begins_with xs ys (λ k a e. h (suc k) a e) in
    (r.0, ap (λ a. a ∷ ys) same ∙ ap (λ zs. x ∷ zs) r.1)

-- what holds of each element of joined lists
pub all_at : {A : Type 0} (P : A → Type 0) (xs : List A) (y : A) (ys : List A) → AllByRecursion P (xs ++ y ∷ ys) → P y
all_at P [] y ys h = h.0
all_at P (x ∷ xs) y ys h = all_at P xs y ys h.1

pub all_front : {A : Type 0} (P : A → Type 0) (xs ys : List A) → AllByRecursion P (xs ++ ys) → AllByRecursion P xs
all_front P [] ys h = tt
all_front P (x ∷ xs) ys h = (h.0, all_front P xs ys h.1)

pub all_append : {A : Type 0} (P : A → Type 0) (xs ys : List A) → AllByRecursion P xs → AllByRecursion P ys → AllByRecursion P (xs ++ ys)
all_append P [] ys h g = g
all_append P (x ∷ xs) ys h g = (h.0, all_append P xs ys h.1 g)

-- ---- mapped

pub mapped_some : {A B : Type 0} (f : A → B) (o : Option A) (b : B) → option_map f o ≡ Some b → (a : A) × (o ≡ Some a) × (f a ≡ b)
mapped_some f o b h = grind arith

pub map_at : {A B : Type 0} (f : A → B) (xs : List A) (i : ℕ) (x : A) → slice_get xs i ≡ Some x → slice_get (map f xs) i ≡ Some (f x)
map_at f xs i x g = slice_get-map f xs i ∙ ap (option_map f) g

-- each element is that of an element
pub get_mapped : {A B : Type 0} (f : A → B) (xs : List A) (i : ℕ) (b : B) → slice_get (map f xs) i ≡ Some b → (a : A) × (slice_get xs i ≡ Some a) × (f a ≡ b)
get_mapped f xs i b g = mapped_some f (slice_get xs i) b (sym (slice_get-map f xs i) ∙ g)

-- the longer list, mapped
pub map_push : {A B : Type 0} (f : A → B) (xs all : List A) (x : A) → all ≡ xs ++ x ∷ [] → map f all ≡ map f xs ++ f x ∷ []
map_push f xs all x e = ap (map f) e ∙ map-append f xs (x ∷ [])

-- ---- cut

-- an element of the first is one of the list
pub get_take : {A : Type 0} (xs : List A) (n i : ℕ) (x : A) → slice_get (take n xs) i ≡ Some x → (i < n) × (slice_get xs i ≡ Some x)
get_take xs n i x g = (omega (arith, slice_get_within (take n xs) i x g, length-take n xs), rw take-append-drop at (get_front (take n xs) (drop n xs) i x g))

-- one more of the first
pub take_one_more : {A : Type 0} (i : ℕ) (xs : List A) (x : A) → slice_get xs i ≡ Some x → take i xs ++ x ∷ [] ≡ take (i + 1) xs
take_one_more {A = A} i xs x g = ap (λ (y : A). take i xs ++ y ∷ []) (sym (get_or_from_slice_get xs i x x g)) ∙ sym (take_more xs i x (slice_get_within xs i x g))

-- what a list has that grows by the elements of another
pub ruleset one_more = (take_one_more, length-take-le, none_within)

-- one less of the rest
pub drop_one_more : {A : Type 0} (i : ℕ) (xs : List A) (x : A) → slice_get xs i ≡ Some x → drop i xs ≡ x ∷ drop (suc i) xs
drop_one_more {A = A} i xs x g = drop-cons xs i x (slice_get_within xs i x g) ∙ ap (λ (y : A). y ∷ drop (suc i) xs) (get_or_from_slice_get xs i x x g)
