-- Texts that spell a number, and others.
use Rattle.std.proofs.Common.{◌≡◌, ◌≢◌, inl, inr, ℕ, ◌^◌, ◌<◌, ◌≤◌, List, length, get_or, take, Some, None, sym, ap, subst, ◌∙◌, arith}
use Rattle.std.proofs.lemmas.Bool.{cases_lt}
use Rattle.std.proofs.lemmas.List.{get_or-take, length-take-le}
use Rattle.std.specs.Fmt.{decimal}
use Rattle.std.specs.Str.Parse.{AllDigits, digits_value}
use Rattle.std.proofs.lemmas.Fmt.{decimal_is_IsNumeral, decimal_digit, decimal-digits_value, first_decimal}
use Rattle.std.proofs.lemmas.Str.Parse.{digits_value_short, numerals_by_value, tells_digits}
use Rattle.rasta_line.specs.Words.{decimal_of}
use Rattle.rasta_line.proofs.Numbers.{decimal_of-decimal, decimal_of-None}

-- a number's text has a digit, and no leading zero
plain : (n : ℕ) → n < 2 ^ 64 → (0 < length (decimal n)) × (get_or (decimal n) 0 0 ≡ 48 → length (decimal n) ≡ 1)
plain n small = elim (cases_lt 0 n) [
  | inl some ↦ (let first = first_decimal n some small in ((decimal_is_IsNumeral n small).0.0, λ zero. absurd (omega (arith, first, zero))))
  | inr none ↦ ((decimal_is_IsNumeral n small).0.0, λ zero. ap length (decimal_digit n (omega arith)))
]

pub no_number_without_digit : (most : ℕ) (text : List ℕ) → most < 2 ^ 64 → ¬ ((0 < length text) × (get_or text 0 0 ≡ 48 → length text ≡ 1)) → None ≡ decimal_of most text
no_number_without_digit most text small h =
    decimal_of-None most text λ n within e. h (subst (λ (l : List ℕ). (0 < length l) × (get_or l 0 0 ≡ 48 → length l ≡ 1)) (sym e) (plain n (omega arith)))

pub no_number_of_others : (most : ℕ) (text : List ℕ) → most < 2 ^ 64 → ¬ (AllDigits 10 text × digits_value 10 text < 2 ^ 64) → None ≡ decimal_of most text
no_number_of_others most text small h =
    decimal_of-None most text λ n within e.
    let d = decimal_is_IsNumeral n (omega arith) in
    let value = ap (digits_value 10) e ∙ d.1 in
    h (subst (AllDigits 10) (sym e) d.0.1, omega (arith, value))

pub no_number_above : (most : ℕ) (text : List ℕ) → most < 2 ^ 64 → most < digits_value 10 text → None ≡ decimal_of most text
no_number_above most text small h =
    decimal_of-None most text λ n within e.
    let value : digits_value 10 text ≡ n = ap (digits_value 10) e ∙ (decimal_is_IsNumeral n (omega arith)).1 in omega arith

-- digits without a leading zero are the text of their number
pub decimal_of-digits : (most n : ℕ) (text : List ℕ) → most < 2 ^ 64 → (0 < length text) × (get_or text 0 0 ≡ 48 → length text ≡ 1) → AllDigits 10 text
    → digits_value 10 text ≡ n → n ≤ most → Some n ≡ decimal_of most text
decimal_of-digits most n text small head digits value within =
    let spelled : decimal (digits_value 10 text) ≡ text = decimal-digits_value (numerals_by_value (AllDigits 10) tells_digits) text digits head.0 head.1 (omega arith) in
    sym (decimal_of-decimal most n text small within (sym spelled ∙ ap decimal value))

-- no digit more makes the number of 18 digits too large
pub short_value : (text : List ℕ) (count : ℕ) → count ≤ length text → count ≤ 18 → AllDigits 10 (take count text)
    → digits_value 10 (take count text) < 10 ^ 18
short_value text count within few digits =
    let long : length (take count text) ≡ count = length-take-le count text within in
    digits_value_short (numerals_by_value (AllDigits 10) tells_digits) (take count text) 18 digits (omega arith)

-- digits at the front that don't begin with a zero are the text of their number
pub decimal-front : (text : List ℕ) (count : ℕ) → count ≤ length text → 0 < count → get_or text 0 0 ≢ 48 → AllDigits 10 (take count text)
    → digits_value 10 (take count text) < 2 ^ 64 → decimal (digits_value 10 (take count text)) ≡ take count text
decimal-front text count within some plain digits small =
    let long : length (take count text) ≡ count = length-take-le count text within in
    let first : get_or (take count text) 0 0 ≡ get_or text 0 0 = get_or-take count text 0 0 some in
    decimal-digits_value (numerals_by_value (AllDigits 10) tells_digits) (take count text) digits (omega arith)
    (λ zero. absurd (plain (sym first ∙ zero))) small
