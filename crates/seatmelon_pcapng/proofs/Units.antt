-- The units of a second.
use Rattle.std.proofs.Common.{◌≡◌, ◌∙◌, ℕ, ◌-◌, ◌*◌, ◌/◌, ◌%◌, ◌^◌, ◌<◌, ◌≤◌, true, nat_lt, cond, ap, sym, arith}
use Rattle.std.proofs.lemmas.Bool.Decides.{nat_tests}
use Rattle.std.proofs.Math.Nat.{div-eq_of_lt, mod-eq_of_lt, one-le-pow, pow-le-pow_right}
use Rattle.seatmelon_pcapng.specs.Moments.{nanoseconds_left, units_of, whole_seconds}

pub tens_fit : (r : ℕ) → r ≤ 38 → 10 ^ r < 2 ^ 128
tens_fit r h = (let most : 10 ^ r ≤ 10 ^ 38 = pow-le-pow_right {n = 10} (omega arith) {i = r} {j = 38} h in omega (arith, most))

pub twos_fit : (r : ℕ) → r ≤ 127 → 2 ^ r < 2 ^ 128
twos_fit r h = (let most : 2 ^ r ≤ 2 ^ 127 = pow-le-pow_right {n = 2} (omega arith) {i = r} {j = 127} h in omega (arith, most))

pub some_tens : (r : ℕ) → 0 < 10 ^ r
some_tens r = one-le-pow r 10 (omega arith)

-- ---- more units than any stamp has

is_less : (n m : ℕ) → n < m → nat_lt n m ≡ true
is_less n m h = grind (arith, nat_tests)

units_are : (r : ℕ) → r < 128 → units_of r ≡ 10 ^ r
units_are r h = ap (λ b. cond b (10 ^ r) (2 ^ (r - 128))) (is_less r 128 h)

many : (r : ℕ) → 38 < r → 10 ^ 39 ≤ 10 ^ r
many r h = pow-le-pow_right {n = 10} (omega arith) {i = 39} {j = r} h

pub no_seconds : (r stamp : ℕ) → 38 < r → r < 128 → stamp < 2 ^ 64 → 0 ≡ whole_seconds r stamp
no_seconds r stamp h k fits =
    let large = many r h in
    let none : stamp / 10 ^ r ≡ 0 = div-eq_of_lt (omega (arith, large)) in
    sym (ap (λ n. stamp / n) (units_are r k) ∙ none)

pub no_nanoseconds : (r stamp : ℕ) → 38 < r → r < 128 → stamp < 2 ^ 64 → 0 ≡ nanoseconds_left r stamp
no_nanoseconds r stamp h k fits =
    let large = many r h in
    let all : stamp % 10 ^ r ≡ stamp = mod-eq_of_lt (omega (arith, large)) in
    let none : stamp * 1000000000 / 10 ^ r ≡ 0 = div-eq_of_lt (omega (arith, large)) in
    sym (ap (λ n. stamp % n * 1000000000 / n) (units_are r k) ∙ ap (λ n. n * 1000000000 / 10 ^ r) all ∙ none)
