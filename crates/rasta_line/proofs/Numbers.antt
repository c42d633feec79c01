-- Numbers, and their texts.
use Rattle.std.proofs.Common.{◌≡◌, ◌≢◌, ℕ, ◌^◌, ◌<◌, ◌≤◌, List, Bool, true, false, cond, nat_le, ◌&&◌, Option, Some, None, refl, sym, ap, ◌∙◌, arith}
use Rattle.std.proofs.lemmas.Bool.{and_parts}
use Rattle.std.proofs.lemmas.Bool.Decides.{nat_tests}
use Rattle.std.proofs.lemmas.Slice.Eq.{bytes_eq-Decides}
use Rattle.std.specs.Fmt.{decimal}
use Rattle.std.specs.Str.{bytes_eq}
use Rattle.std.specs.Str.Parse.{digits_value}
use Rattle.std.proofs.lemmas.Fmt.{decimal_is_IsNumeral}
use Rattle.rasta_line.specs.Words.{decimal_of}

-- the text of a number that is not above the bound is that number
pub decimal_of-decimal : (most n : ℕ) (text : List ℕ) → most < 2 ^ 64 → n ≤ most → text ≡ decimal n → decimal_of most text ≡ Some n
unfolding decimal_of
decimal_of-decimal most n text small h e =
    let value : digits_value 10 text ≡ n = ap (digits_value 10) e ∙ (decimal_is_IsNumeral n (omega arith)).1 in
    let same : bytes_eq text (decimal (digits_value 10 text)) ≡ true = (bytes_eq-Decides text (decimal (digits_value 10 text))).1 (e ∙ ap decimal (sym value)) in
    let within : nat_le (digits_value 10 text) most ≡ true = grind (arith, nat_tests) in
    ap (λ (b : Bool). cond (b && nat_le (digits_value 10 text) most) (Some (digits_value 10 text)) None) same
    ∙ ap (λ (b : Bool). cond b (Some (digits_value 10 text)) None) within ∙ ap Some value

tested : (b : Bool) (n m : ℕ) → cond b (Some n) None ≡ Some m → (b ≡ true) × (n ≡ m)
tested true n m h = (refl, cc)
tested false n m h = absurd (cc)

-- what is read of a text is the number that it spells
pub decimal_of-Some : (most n : ℕ) (text : List ℕ) → decimal_of most text ≡ Some n → (text ≡ decimal n) × (n ≤ most)
unfolding decimal_of
decimal_of-Some most n text h =
    let t = tested _ (digits_value 10 text) n h in
    let both = and_parts (bytes_eq text (decimal (digits_value 10 text))) (nat_le (digits_value 10 text) most) t.0 in
    let value : digits_value 10 text ≡ n = t.1 in
    let within : nat_le (digits_value 10 text) most ≡ true = both.1 in
    ((bytes_eq-Decides text (decimal (digits_value 10 text))).0 both.0 ∙ ap decimal value, grind (arith, nat_tests))

none_left : (most : ℕ) (text : List ℕ) (o : Option ℕ) → decimal_of most text ≡ o → ((n : ℕ) → n ≤ most → text ≢ decimal n) → None ≡ o
none_left most text None e h = refl
none_left most text (Some n) e h = let s = decimal_of-Some most n text e in absurd (h n s.1 s.0)

-- a text that spells no number
pub decimal_of-None : (most : ℕ) (text : List ℕ) → ((n : ℕ) → n ≤ most → text ≢ decimal n) → None ≡ decimal_of most text
decimal_of-None most text h = none_left most text (decimal_of most text) refl h
