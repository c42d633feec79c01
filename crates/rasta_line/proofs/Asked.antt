-- A table of sixteen digits that is asked for sixteen of them at once.
use Rattle.std.proofs.Common.{◌≡◌, ◌∙◌, ℕ, zero, suc, ◌+◌, ◌*◌, ◌≤◌, take, ◌/◌, ◌%◌, ◌<◌, ◌++◌, List, [], ◌∷◌, length, drop, get_or, map, replicate, slice_index, refl, sym, ap, subst, arith, w8}
use Rattle.hex.specs.Hex.{encode_lower, encode_with, lower_digits}
use Rattle.std.specs.Simd.Lanes.{zip2}
use Rattle.std.proofs.lemmas.Simd.{swz_l, SwzOk, SwzOk-from_below, Each1-from_get_or, length-zip2, length-swz_l, get_or-zip2, get_or-replicate, get_or-swz_l_below}
use Rattle.std.proofs.lemmas.List.{ext_get_or, get_or-map, length-map}
use borrow.Rule.Slice.PartMut.{put_mid}
use Rattle.std.proofs.lemmas.Slice.{take-put_mid}
use Rattle.std.proofs.Math.Seq.{take-add}
use Rattle.rasta_line.proofs.Sending.{digits-cut, encode_with-append}

-- what a table has for one digit of each byte
abbrev pub digits_by : (ℕ → ℕ) → List ℕ → List ℕ
digits_by g xs = map (λ x. slice_index lower_digits (g x)) xs

module _ (f : ℕ → ℕ → ℕ) (n : ℕ) (g : ℕ → ℕ) (same : (x : ℕ) → f x n ≡ g x) (xs : List ℕ) (long : length xs ≡ 16) (small : (k : ℕ) → k < 16 → g (get_or xs k 0) < 16) where
  at : (k : ℕ) → k < 16 → get_or (zip2 f xs (replicate 16 n)) k 0 ≡ g (get_or xs k 0)
  at k below =
      get_or-zip2 f xs (replicate 16 n) k 0 0 0 (omega arith) below ∙ ap (f (get_or xs k 0)) (get_or-replicate 16 k n 0 below) ∙ same (get_or xs k 0)

  length-asked : length (zip2 f xs (replicate 16 n)) ≡ 16
  length-asked = length-zip2 f xs (replicate 16 n) long ∙ long

  -- each place is one of the table
  pub is_asked : SwzOk w8 16 16 0 (zip2 f xs (replicate 16 n))
  is_asked =
      let size = length-asked in
      SwzOk-from_below w8 16 1 16 0 (zip2 f xs (replicate 16 n)) refl (omega arith)
      (Each1-from_get_or (λ j. j < 16) (zip2 f xs (replicate 16 n)) 0 (λ i l. omega (arith, at i (omega arith), small i (omega arith))))

  -- what the table has there
  pub answered : swz_l w8 16 lower_digits 0 (zip2 f xs (replicate 16 n)) ≡ digits_by g xs
  answered =
      let size = length-asked in
      let size_of_answer : length (swz_l w8 16 lower_digits 0 (zip2 f xs (replicate 16 n))) ≡ 16 = length-swz_l w8 16 lower_digits 0 (zip2 f xs (replicate 16 n)) ∙ size in
      ext_get_or 0 _ _ (omega (arith, length-map xs (λ x. slice_index lower_digits (g x))))
      (λ i l.
      let below : i < 16 = omega arith in
      get_or-swz_l_below w8 16 lower_digits 0 (zip2 f xs (replicate 16 n)) i (omega arith) (omega (arith, at i below, small i below))
      ∙ ap (λ j. get_or lower_digits j 0) (omega (arith, at i below))
      ∙ sym (get_or-map (λ x. slice_index lower_digits (g x)) xs i 0 0 (omega arith)))

-- the elements of a list, one by one
abbrev each_of : ℕ → List ℕ → List ℕ
each_of zero xs = []
each_of (suc n) xs = get_or xs 0 0 ∷ each_of n (drop 1 xs)

each_of-all : (n : ℕ) (xs : List ℕ) → length xs ≡ n → each_of n xs ≡ xs
each_of-all zero [] long = refl
each_of-all zero (x ∷ xs) long = absurd (omega (arith, long))
each_of-all (suc n) [] long = absurd (omega (arith, long))
each_of-all (suc n) (x ∷ xs) long = ap (λ (l : List ℕ). x ∷ l) (each_of-all n xs (omega (arith, long)))

-- two lists of sixteen, element by element in turn
abbrev pub in_turn : List ℕ → List ℕ → List ℕ
in_turn hs ls =
    map (λ k. get_or (hs ++ ls) k 0)
    (0 ∷ 16 ∷ 1 ∷ 17 ∷ 2 ∷ 18 ∷ 3 ∷ 19 ∷ 4 ∷ 20 ∷ 5 ∷ 21 ∷ 6 ∷ 22 ∷ 7 ∷ 23 ∷ 8 ∷ 24 ∷ 9 ∷ 25 ∷ 10 ∷ 26 ∷ 11 ∷ 27 ∷ 12 ∷ 28 ∷ 13 ∷ 29 ∷ 14 ∷ 30 ∷ 15 ∷ 31 ∷ [])

-- the high digits and the low ones of sixteen bytes in turn are their text
pub in_turn-digits : (xs : List ℕ) → length xs ≡ 16 → in_turn (digits_by (λ x. x / 16) xs) (digits_by (λ x. x % 16) xs) ≡ encode_lower xs
unfolding encode_with
in_turn-digits xs long =
    subst (λ ys. in_turn (digits_by (λ x. x / 16) ys) (digits_by (λ x. x % 16) ys) ≡ encode_lower ys) (each_of-all 16 xs long) refl

-- the digits of one block more
pub digits-more : (piece room block digits : List ℕ) (at k : ℕ) → at + 16 ≤ length piece → 2 * at ≤ length room
    → take (2 * at) room ≡ encode_lower (take at piece) → block ≡ take 16 (drop at piece) → digits ≡ encode_lower block → length digits ≡ 32
    → take (2 * (at + 16)) (put_mid (2 * at) k room digits) ≡ encode_lower (take (at + 16) piece)
digits-more piece room block digits at k room_left within before is_block are_digits long =
    take-put_mid (2 * at) k room digits (2 * (at + 16)) (omega (arith, long)) within
    ∙ (λ i. before i ++ (are_digits ∙ ap encode_lower is_block) i)
    ∙ sym (encode_with-append lower_digits (take at piece) (take 16 (drop at piece)))
    ∙ ap encode_lower (sym (take-add at 16 piece))

-- the digits of a piece, after those of its whole blocks
pub digits-all : (piece room rest digits : List ℕ) (at k n : ℕ) → at ≤ length piece → 2 * at ≤ length room
    → take (2 * at) room ≡ encode_lower (take at piece) → rest ≡ drop at piece → digits ≡ encode_lower rest → n ≡ 2 * at + length digits
    → take n (put_mid (2 * at) k room digits) ≡ encode_lower piece
digits-all piece room rest digits at k n within room_left before is_rest are_digits all =
    take-put_mid (2 * at) k room digits n all room_left
    ∙ (λ i. before i ++ (are_digits ∙ ap encode_lower is_rest) i)
    ∙ sym (digits-cut piece at)
