-- What a script says of a level, by its first entry.
use Rattle.std.proofs.Common.{◌≡◌, ℕ, ◌<◌, true, false, List, [], ◌∷◌, refl, arith}
use Rattle.rasta_check.proofs.Prelude.{◌==◌, nat_tests, Entry, Take, Make, Why, takes_at, makes_at}

pub takes_here : (level number : ℕ) (es : List Entry) → takes_at level (Take level number ∷ es) ≡ number ∷ takes_at level es
unfolding takes_at
takes_here level number es = (let same : (level == level) ≡ true = grind (arith, nat_tests) in rw same refl)

pub takes_other : (level slot number : ℕ) (es : List Entry) → (slot == level) ≡ false → takes_at level (Take slot number ∷ es) ≡ takes_at level es
unfolding takes_at
takes_other level slot number es other = rw other refl

pub takes_past : (level index clock : ℕ) (why : Why) (es : List Entry) → takes_at level (Make index clock why ∷ es) ≡ takes_at level es
unfolding takes_at
takes_past level index clock why es = refl

pub makes_here : (place clock : ℕ) (why : Why) (es : List Entry) → makes_at place (Make place clock why ∷ es) ≡ (clock, why) ∷ makes_at place es
unfolding makes_at
makes_here place clock why es = (let same : (place == place) ≡ true = grind (arith, nat_tests) in rw same refl)

pub makes_other : (place index clock : ℕ) (why : Why) (es : List Entry) → (index == place) ≡ false → makes_at place (Make index clock why ∷ es) ≡ makes_at place es
unfolding makes_at
makes_other place index clock why es other = rw other refl

pub makes_past : (place slot number : ℕ) (es : List Entry) → makes_at place (Take slot number ∷ es) ≡ makes_at place es
unfolding makes_at
makes_past place slot number es = refl

pub takes_none : (level : ℕ) → takes_at level [] ≡ []
unfolding takes_at
takes_none level = refl

pub makes_none : (place : ℕ) → makes_at place [] ≡ []
unfolding makes_at
makes_none place = refl

-- two numbers of which one is greater differ
pub above : (low high : ℕ) → low < high → (high == low) ≡ false
above low high l = grind (arith, nat_tests)

pub below : (low high : ℕ) → low < high → (low == high) ≡ false
below low high l = grind (arith, nat_tests)
