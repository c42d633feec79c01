-- What was sent of a text, piece by piece.
use Rattle.std.proofs.Common.{◌≡◌, ◌∙◌, ℕ, ◌/◌, ◌%◌, ◌++◌, slice_index, take, drop, length, take-append-drop, arith, append_assoc, List, [], ◌∷◌, ap, refl, sym}
use Rattle.hex.specs.Hex.{encode_lower, encode_with, lower_digits}
use Rattle.rasta_line.specs.Texts.{words_before}

-- the digits of two pieces
pub encode_with-append : (t xs ys : List ℕ) → encode_with t (xs ++ ys) ≡ encode_with t xs ++ encode_with t ys
unfolding encode_with
encode_with-append t [] ys = refl
encode_with-append t (x ∷ xs) ys = ap (λ (l : List ℕ). slice_index t (x / 16) ∷ slice_index t (x % 16) ∷ l) (encode_with-append t xs ys)

-- words that come before two parts of the rest
pub words_before-append : (words : List (List ℕ)) (xs ys : List ℕ) → words_before words (xs ++ ys) ≡ words_before words xs ++ ys
words_before-append [] xs ys = refl
words_before-append (w ∷ words) xs ys =
    ap (λ (l : List ℕ). w ++ (32 ∷ l)) (words_before-append words xs ys) ∙ sym (append_assoc w (32 ∷ words_before words xs) ys)

-- the digits of a list that is cut in two
pub digits-cut : (xs : List ℕ) (n : ℕ) → encode_lower xs ≡ encode_lower (take n xs) ++ encode_lower (drop n xs)
digits-cut xs n = ap encode_lower (sym (take-append-drop n xs)) ∙ encode_with-append lower_digits (take n xs) (drop n xs)

-- no digits of nothing
pub digits-none : (xs : List ℕ) → length xs ≡ 0 → encode_lower xs ≡ []
unfolding encode_with
digits-none [] h = refl
digits-none (x ∷ xs) h = absurd (omega (arith, h))

pub digits-parts : (xs front back : List ℕ) (n : ℕ) → front ≡ take n xs → back ≡ drop n xs
    → encode_lower xs ≡ encode_lower front ++ encode_lower back
digits-parts xs front back n e f = rw (e, f) (digits-cut xs n)
