-- What comparisons of numbers say.
use Rattle.std.proofs.Common.{◌≡◌, ℕ, ◌<◌, ◌≤◌, true, false, arith}
use Rattle.rasta_build.proofs.Prelude.{nat_lt, ◌==◌, nat_tests}

pub is_same : (m n : ℕ) → m ≡ n → (m == n) ≡ true
is_same m n h = grind (arith, nat_tests)

pub is_other : (m n : ℕ) → (m ≡ n → ⊥) → (m == n) ≡ false
is_other m n h = grind (arith, nat_tests)

pub was_same : (m n : ℕ) → (m == n) ≡ true → m ≡ n
was_same m n h = grind (arith, nat_tests)

pub was_other : (m n : ℕ) → (m == n) ≡ false → m ≡ n → ⊥
was_other m n h k = grind (arith, nat_tests)

pub lt_is : (m n : ℕ) → m < n → nat_lt m n ≡ true
lt_is m n h = grind (arith, nat_tests)

pub not_lt : (m n : ℕ) → n ≤ m → nat_lt m n ≡ false
not_lt m n h = grind (arith, nat_tests)

pub less_is : (m n : ℕ) → nat_lt m n ≡ true → m < n
less_is m n h = grind (arith, nat_tests)

pub not_less : (m n : ℕ) → nat_lt m n ≡ false → n ≤ m
not_less m n h = grind (arith, nat_tests)
