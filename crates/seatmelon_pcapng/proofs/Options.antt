-- A list of options, one after the other.
use Rattle.std.proofs.Common.{◌≡◌, ◌∙◌, ℕ, zero, suc, ◌+◌, ◌-◌, ◌<◌, ◌≤◌, List, min, length, length-drop, take, drop, Option, None, Some, Bool, true, false, nat_lt, nat_eq, cond, refl, ap, sym, arith}
use Rattle.std.specs.Prelude.{◌||◌}
use Rattle.std.proofs.lemmas.Bool.Decides.{nat_tests}
use Rattle.std.proofs.lemmas.Grind.{common_steps}
use Rattle.seatmelon_pcapng.specs.Interfaces.{option_in, option_of, padded, value_length}
use Rattle.seatmelon_pcapng.specs.Orders.{field}
use Rattle.seatmelon_pcapng.specs.declared.order.Order.{Order}

-- what is found, by what is told of the first option
abbrev by_tests : Bool → Bool → Bool → Bool → Option (List ℕ) → Option (List ℕ) → Option (List ℕ)
by_tests few ends cut is value more = cond few None (cond (ends || cut) None (cond is value more))

-- the value of the first option, or what is found behind it
abbrev option_by : Order → ℕ → List ℕ → Option (List ℕ) → Option (List ℕ)
option_by order code options more =
    cond (nat_lt (length options) 4) None
    (cond (nat_eq (field order 2 0 options) 0 || nat_lt (length options - 4) (value_length order options)) None
    (cond (nat_eq (field order 2 0 options) code) (Some (take (value_length order options) (drop 4 options))) more))

abbrev rest_after : Order → List ℕ → List ℕ
rest_after order options = drop (4 + padded (value_length order options)) options

option_in-suc : (left : ℕ) (order : Order) (code : ℕ) (options : List ℕ)
    → option_in (suc left) order code options ≡ option_by order code options (option_in left order code (rest_after order options))
unfolding option_in
option_in-suc left order code options = refl

option_in-zero : (order : Order) (code : ℕ) (options : List ℕ) → option_in zero order code options ≡ None
unfolding option_in
option_in-zero order code options = refl

is_less : (n m : ℕ) → n < m → nat_lt n m ≡ true
is_less n m h = grind (arith, nat_tests)

option_in-few : (left : ℕ) (order : Order) (code : ℕ) (options : List ℕ) → length options < 4 → option_in left order code options ≡ None
option_in-few zero order code options h = option_in-zero order code options
option_in-few (suc left) order code options h =
    option_in-suc left order code options
    ∙ ap (λ b. by_tests b (nat_eq (field order 2 0 options) 0) (nat_lt (length options - 4) (value_length order options)) (nat_eq (field order 2 0 options) code)
    (Some (take (value_length order options) (drop 4 options))) (option_in left order code (rest_after order options))) (is_less (length options) 4 h)

shorter : (n m left : ℕ) → n ≤ suc left → n - (4 + m) ≤ left
shorter n m left h = omega arith

-- as many options as there are bytes are enough
option_in-enough : (one other : ℕ) (order : Order) (code : ℕ) (options : List ℕ) → length options ≤ one → length options ≤ other
    → option_in one order code options ≡ option_in other order code options
option_in-enough zero other order code options h k = option_in-zero order code options ∙ sym (option_in-few other order code options (omega arith))
option_in-enough (suc one) zero order code options h k = option_in-few (suc one) order code options (omega arith) ∙ sym (option_in-zero order code options)
option_in-enough (suc one) (suc other) order code options h k =
    let more = padded (value_length order options) in
    let size : length (rest_after order options) ≡ length options - (4 + more) = length-drop (4 + more) options in
    let less : length options - (4 + more) ≤ one = shorter (length options) more one h in
    let less_too : length options - (4 + more) ≤ other = shorter (length options) more other k in
    option_in-suc one order code options
    ∙ ap (option_by order code options) (option_in-enough one other order code (rest_after order options) (omega (arith, size, less)) (omega (arith, size, less_too)))
    ∙ sym (option_in-suc other order code options)

some_bytes : (n : ℕ) → 4 ≤ n → n ≡ suc (n - 1)
some_bytes n h = omega arith

pub option_of-step : (order : Order) (code : ℕ) (options : List ℕ) → 4 ≤ length options
    → option_of order code options ≡ option_by order code options (option_of order code (rest_after order options))
option_of-step order code options h =
    let more = padded (value_length order options) in
    let size : length (rest_after order options) ≡ length options - (4 + more) = length-drop (4 + more) options in
    ap (λ n. option_in n order code options) (some_bytes (length options) h)
    ∙ option_in-suc (length options - 1) order code options
    ∙ ap (option_by order code options) (option_in-enough (length options - 1) (length (rest_after order options)) order code (rest_after order options) (omega (arith, size)) (omega arith))

pub option_of-few : (order : Order) (code : ℕ) (options : List ℕ) → length options < 4 → option_of order code options ≡ None
option_of-few order code options h = option_in-few (length options) order code options h

-- ---- by what stands in front

not_equal : (n m : ℕ) → (n ≡ m → ⊥) → nat_eq n m ≡ false
not_equal n m h = grind (arith, nat_tests)

is_equal : (n m : ℕ) → n ≡ m → nat_eq n m ≡ true
is_equal n m h = grind (arith, nat_tests)

at_least : (n m : ℕ) → m ≤ n → nat_lt n m ≡ false
at_least n m h = grind (arith, nat_tests)

tests_are : (few ends cut is few_so ends_so cut_so is_so : Bool) (value more : Option (List ℕ)) → few ≡ few_so → ends ≡ ends_so → cut ≡ cut_so → is ≡ is_so
    → by_tests few ends cut is value more ≡ by_tests few_so ends_so cut_so is_so value more
tests_are few ends cut is few_so ends_so cut_so is_so value more a b c d =
    ap (λ x. by_tests x ends cut is value more) a ∙ ap (λ x. by_tests few_so x cut is value more) b
    ∙ ap (λ x. by_tests few_so ends_so x is value more) c ∙ ap (λ x. by_tests few_so ends_so cut_so x value more) d

drop-min : (m : ℕ) (xs : List ℕ) → drop (min (length xs) m) xs ≡ drop m xs
drop-min m xs = grind (arith, common_steps)

module _ (order : Order) (code : ℕ) (options : List ℕ) (some : 4 ≤ length options) where
  step : (few ends cut is : Bool) → nat_lt (length options) 4 ≡ few → nat_eq (field order 2 0 options) 0 ≡ ends
      → nat_lt (length options - 4) (value_length order options) ≡ cut → nat_eq (field order 2 0 options) code ≡ is
      → option_of order code options ≡ by_tests few ends cut is (Some (take (value_length order options) (drop 4 options))) (option_of order code (rest_after order options))
  step few ends cut is a b c d = option_of-step order code options some ∙ tests_are _ _ _ _ few ends cut is _ _ a b c d

  pub option_of-end : (found : ℕ) → found ≡ field order 2 0 options → found ≡ 0 → option_of order code options ≡ None
  option_of-end found e none =
      step false true (nat_lt (length options - 4) (value_length order options)) (nat_eq (field order 2 0 options) code)
      (at_least (length options) 4 some) (is_equal (field order 2 0 options) 0 (omega arith)) refl refl

  pub option_of-cut : (found len : ℕ) → found ≡ field order 2 0 options → len ≡ value_length order options → (found ≡ 0 → ⊥) → length options - 4 < len
      → option_of order code options ≡ None
  option_of-cut found len e k more short =
      step false false true (nat_eq (field order 2 0 options) code)
      (at_least (length options) 4 some) (not_equal (field order 2 0 options) 0 (λ z. more (e ∙ z))) (is_less (length options - 4) (value_length order options) (omega arith)) refl

  pub option_of-found : (found len : ℕ) → found ≡ field order 2 0 options → len ≡ value_length order options → (found ≡ 0 → ⊥) → len ≤ length options - 4 → found ≡ code
      → option_of order code options ≡ Some (take (4 + len - 4) (drop 4 options))
  option_of-found found len e k more whole is =
      let same : value_length order options ≡ 4 + len - 4 = omega arith in
      step false false false true
      (at_least (length options) 4 some) (not_equal (field order 2 0 options) 0 (λ z. more (e ∙ z))) (at_least (length options - 4) (value_length order options) (omega arith))
      (is_equal (field order 2 0 options) code (sym e ∙ is))
      ∙ ap (λ n. Some (take n (drop 4 options))) same

  drop_min : (k m : ℕ) → k ≡ min (length options) m → drop k options ≡ drop m options
  drop_min k m e = (let whole = drop-min m options in ap (λ n. drop n options) e ∙ whole)

  pub option_of-other : (found len k : ℕ) → found ≡ field order 2 0 options → len ≡ value_length order options → (found ≡ 0 → ⊥) → len ≤ length options - 4 → (found ≡ code → ⊥)
      → k ≡ min (length options) (4 + padded len) → option_of order code options ≡ option_of order code (drop k options)
  option_of-other found len k e f more whole other is =
      step false false false false
      (at_least (length options) 4 some) (not_equal (field order 2 0 options) 0 (λ z. more (e ∙ z))) (at_least (length options - 4) (value_length order options) (omega arith))
      (not_equal (field order 2 0 options) code (λ z. other (e ∙ z)))
      ∙ ap (λ n. option_of order code (drop (4 + padded n) options)) (sym f)
      ∙ ap (option_of order code) (sym (drop_min k (4 + padded len) is))
