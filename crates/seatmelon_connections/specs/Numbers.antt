-- Numbers of 32 bits that wrap around.
use Rattle.std.specs.Prelude.{◌≡◌, ℕ, ◌+◌, ◌%◌, ◌^◌, ◌<◌, ◌≤◌}
use Rattle.seatmelon_connections.specs.declared.numbers.Offset.{Offset}
use Rattle.seatmelon_connections.specs.declared.numbers.Offset.TheVariants.{Expected, Ahead, Behind}

-- a number is the expected one, ahead of it by less than half of the numbers, or behind it by no more than half
abbrev pub IsOffset : Offset → ℕ → ℕ → Type 0
IsOffset Expected number expected = number ≡ expected
IsOffset (Ahead n) number expected = (0 < n) × (n < 2 ^ 31) × ((expected + n) % 2 ^ 32 ≡ number)
IsOffset (Behind n) number expected = (0 < n) × (n ≤ 2 ^ 31) × ((number + n) % 2 ^ 32 ≡ expected)
