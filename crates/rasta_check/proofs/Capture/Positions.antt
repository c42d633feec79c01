-- Positions in ordered lists of first copies.
use Rattle.std.proofs.Common.{◌≡◌, ℕ, zero, suc, ◌+◌, ◌-◌, ◌%◌, ◌^◌, ◌<◌, ◌≤◌, ◌++◌, Bool, false, nat_eq, List, [], ◌∷◌, Some, None, length, map, slice_get, position, refl, ap, sym, ◌∙◌, arith, subst, if◌then◌else◌, take, drop}
use Rattle.rasta_check.proofs.Prelude.{option_map, nat_tests, length_push, map-append, take-append-drop, slice_get_within, slice_get-get_or, wrapped, FirstCopy, IsOrdered}
use Rattle.rasta_check.proofs.Prelude.{position_of_number, position_of_place, get_front, get_mapped, get_push, mapped_some, slice_get_some}
use Rattle.std.proofs.lemmas.List.Quantifiers.{position-Some}
use Rattle.rasta_check.specs.Capture.Lists.{AreMarks, marked}
use Rattle.rasta_check.proofs.Lists.{rises_by}

-- ---- the first member with a number

module _ (f : FirstCopy → ℕ) (n : ℕ) where
  first_of : (sent : List FirstCopy) (i : ℕ) (c : FirstCopy) → slice_get sent i ≡ Some c → f c ≡ n → ((j : ℕ) (d : FirstCopy) → j < i → slice_get sent j ≡ Some d → f d ≡ n → ⊥)
      → position (nat_eq n) (map f sent) ≡ Some i
  first_of [] i c g e fails = absurd (cc)
  first_of (x ∷ sent) zero c g e fails = (let same : x ≡ c = cc in let here : f x ≡ n = ap f same ∙ e in grind (arith, nat_tests))
  first_of (x ∷ sent) (suc i) c g e fails = (let other = fails 0 x (omega arith) refl in let more = first_of sent i c g e (λ j d l. fails (suc j) d (omega arith)) in grind (arith, nat_tests))

  none_of : (sent : List FirstCopy) → ((j : ℕ) (d : FirstCopy) → slice_get sent j ≡ Some d → f d ≡ n → ⊥) → position (nat_eq n) (map f sent) ≡ None
  none_of [] fails = refl
  none_of (x ∷ sent) fails = (let other = fails 0 x refl in let more = none_of sent (λ j. fails (suc j)) in grind (arith, nat_tests))

  member_of : (sent : List FirstCopy) (i : ℕ) → position (nat_eq n) (map f sent) ≡ Some i → (c : FirstCopy) × (slice_get sent i ≡ Some c) × (f c ≡ n)
  member_of sent i e = (let w = position-Some (nat_eq n) (map f sent) i 0 e in grind (arith, nat_tests, get_mapped, slice_get-get_or))

pub number_found : (cs : List FirstCopy) (number i : ℕ) → position_of_number cs number ≡ Some i → (c : FirstCopy) × (slice_get cs i ≡ Some c) × (c.pdu.number ≡ number)
number_found cs number i e = member_of (λ (c : FirstCopy). c.pdu.number) number cs i e

pub place_found : (cs : List FirstCopy) (place i : ℕ) → position_of_place cs place ≡ Some i → (c : FirstCopy) × (slice_get cs i ≡ Some c) × (c.place ≡ place)
place_found cs place i e = member_of (λ (c : FirstCopy). c.place) place cs i e

-- ---- a list that goes on

-- a member that doesn't pass changes nothing
pub position_push : (p : ℕ → Bool) (xs : List ℕ) (y : ℕ) → p y ≡ false → position p (xs ++ y ∷ []) ≡ position p xs
position_push p [] y fails = grind arith
position_push p (x ∷ xs) y fails = (let more = position_push p xs y fails in let size = length_push xs y in grind (arith, nat_tests))

-- ---- ordered lists

-- numbers of positions that are less than 2^32 apart differ
pub not_again : (f i j m n : ℕ) → m ≡ (f + i) % 2 ^ 32 → n ≡ (f + j) % 2 ^ 32 → i < j → j < 4294967296 → m ≡ n → ⊥
not_again f i j m n x y l b e = omega arith

-- a number names one position
pub number_once : (sent : List FirstCopy) → IsOrdered sent → length sent < 4294967296 → (i j : ℕ) (c d : FirstCopy) → slice_get sent i ≡ Some c → slice_get sent j ≡ Some d
    → c.pdu.number ≡ d.pdu.number → i ≡ j
number_once sent h few i j c d x y e =
    let li = slice_get_within sent i c x in
    let lj = slice_get_within sent j d y in
    let head = slice_get_some sent 0 (omega arith) in
    omega (arith, li, lj, few, e, h.numbers i head.0 c head.1 x, h.numbers j head.0 d head.1 y)

-- the number of a member names its position
pub number_named : (sent : List FirstCopy) → IsOrdered sent → length sent < 4294967296 → (i : ℕ) (c : FirstCopy) → slice_get sent i ≡ Some c → position_of_number sent c.pdu.number ≡ Some i
number_named sent h few i c g = grind (arith, first_of, number_once)

-- the number that comes next is new
pub next_new : (sent : List FirstCopy) → IsOrdered sent → length sent < 4294967296 → (n : ℕ) → ((c : FirstCopy) → slice_get sent 0 ≡ Some c → n ≡ wrapped (c.pdu.number + length sent))
    → (i : ℕ) (c : FirstCopy) → slice_get sent i ≡ Some c → c.pdu.number ≡ n → ⊥
next_new sent h few n next i c g e =
    let l = slice_get_within sent i c g in
    let head = slice_get_some sent 0 (omega arith) in
    not_again head.0.pdu.number i (length sent) c.pdu.number n (h.numbers i head.0 c head.1 g) (next head.0 head.1) l few e

-- a later member crosses later
pub places_rise : (sent : List FirstCopy) → IsOrdered sent → (i j : ℕ) (a b : FirstCopy) → slice_get sent i ≡ Some a → slice_get sent j ≡ Some b → i < j → a.place < b.place
places_rise sent h i j a b x y l = rises_by (λ (c : FirstCopy). c.place) sent h.places i j a b x y l

-- a place names one position
pub place_once : (sent : List FirstCopy) → IsOrdered sent → (i j : ℕ) (a b : FirstCopy) → slice_get sent i ≡ Some a → slice_get sent j ≡ Some b → a.place ≡ b.place → i ≡ j
place_once sent h i j a b x y e = grind (arith, places_rise)

-- the place of a member names its position, where none before it has that place
pub place_first : (sent : List FirstCopy) (i : ℕ) (c : FirstCopy) → slice_get sent i ≡ Some c → ((j : ℕ) (d : FirstCopy) → j < i → slice_get sent j ≡ Some d → d.place ≡ c.place → ⊥) → position_of_place sent c.place ≡ Some i
place_first sent i c g none = first_of (λ (x : FirstCopy). x.place) c.place sent i c g refl none

-- and so it does in an ordered list
pub place_named : (sent : List FirstCopy) → IsOrdered sent → (i : ℕ) (c : FirstCopy) → slice_get sent i ≡ Some c → position_of_place sent c.place ≡ Some i
place_named sent h i c g = place_first sent i c g (λ j d l k e. (let low = places_rise sent h j i d c k g l in omega (arith, low, e)))

-- a place that no member has names none
pub place_missing : (sent : List FirstCopy) (place : ℕ) → ((i : ℕ) (c : FirstCopy) → slice_get sent i ≡ Some c → c.place ≡ place → ⊥) → position_of_place sent place ≡ None
place_missing sent place none = none_of (λ (x : FirstCopy). x.place) place sent none

-- ---- a beginning of a list

pub ordered_front : (xs ys : List FirstCopy) → IsOrdered (xs ++ ys) → IsOrdered xs
ordered_front xs ys h = record {
  places = λ i a b x y. h.places i a b (get_front xs ys i a x) (get_front xs ys (suc i) b y);
  numbers = λ i a b x y. h.numbers i a b (get_front xs ys 0 a x) (get_front xs ys i b y);
}

pub ordered_take : (n : ℕ) (xs : List FirstCopy) → IsOrdered xs → IsOrdered (take n xs)
ordered_take n xs h = ordered_front (take n xs) (drop n xs) (subst IsOrdered (sym (take-append-drop n xs)) h)

-- ---- the table of places of a list that goes on

module _ (sent : List FirstCopy) (c : FirstCopy) (h : IsOrdered (sent ++ c ∷ [])) where
  -- its number is new
  pub number_new : length sent < 4294967296 → (i : ℕ) (d : FirstCopy) → slice_get sent i ≡ Some d → d.pdu.number ≡ c.pdu.number → ⊥
  number_new few i d g e =
      next_new sent (ordered_front sent (c ∷ []) h) few c.pdu.number (λ a x. h.numbers (length sent) a c (get_front sent (c ∷ []) 0 a x) (get_push sent c)) i d g e

  pub place_pushed : (q : ℕ) → position_of_place (sent ++ c ∷ []) q ≡ (if nat_eq q c.place then Some (length sent) else position_of_place sent q)
  place_pushed q = (let last = place_named (sent ++ c ∷ []) h (length sent) c (get_push sent c) in grind (arith, map-append, position_push, nat_tests))

  -- the marks with one more are those of the list with one more
  pub marks_pushed : (old new : List ℕ) → AreMarks sent old → ((q : ℕ) → marked new q ≡ (if nat_eq q c.place then Some (length sent) else marked old q)) → AreMarks (sent ++ c ∷ []) new
  marks_pushed old new m f q = f q ∙ (ap (λ o. if nat_eq q c.place then Some (length sent) else o) (m q) ∙ sym (place_pushed q))

-- ---- the position of a number is its distance from the first

module _ (sent : List FirstCopy) (h : IsOrdered sent) (few : length sent < 4294967296) (first : ℕ) (starts : option_map (λ (c : FirstCopy). c.pdu.number) (slice_get sent 0) ≡ Some first)
    (n : ℕ) (small : n < 4294967296) where
  number_at : (i : ℕ) (c : FirstCopy) → slice_get sent i ≡ Some c → c.pdu.number ≡ (first + i) % 4294967296
  number_at i c g = (let w = mapped_some (λ (c : FirstCopy). c.pdu.number) (slice_get sent 0) first starts in h.numbers i w.0 c w.1 g ∙ ap (λ m. wrapped (m + i)) w.2)

  first_small : first < 4294967296
  first_small = (let w = mapped_some (λ (c : FirstCopy). c.pdu.number) (slice_get sent 0) first starts in let e = number_at 0 w.0 w.1 in let same = w.2 in omega arith)

  pub near : (n + (4294967296 - first)) % 4294967296 < length sent → position_of_number sent n ≡ Some ((n + (4294967296 - first)) % 4294967296)
  near l =
      let c = slice_get_some sent _ l in
      let few_first = first_small in
      let at : c.0.pdu.number ≡ n = omega (arith, number_at _ c.0 c.1) in
      rw at at (number_named sent h few _ c.0 c.1)

  pub far : length sent ≤ (n + (4294967296 - first)) % 4294967296 → position_of_number sent n ≡ None
  far l = grind (arith, none_of, slice_get_within, first_small, number_at)
