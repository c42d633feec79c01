-- Reading as many bytes as were asked for.
use Rattle.std.specs.Prelude.{ℕ, ◌<◌, ◌≤◌, List, length, Option}
use Rattle.std.specs.Io.KnownBytes.{Consumes, IsAtEnd}

-- as many bytes were read as were asked for, or all up to the end of input
pub record IsFilled (size : ℕ) (old new : Option (List ℕ)) (bytes : List ℕ) : Type 0 where
  pub consumed : Consumes old new bytes
  pub within : length bytes ≤ size
  pub at_end : length bytes < size → IsAtEnd new

-- some bytes were read, at most so many
abbrev pub ReadsUpTo : ℕ → Option (List ℕ) → Option (List ℕ) → Type 0
ReadsUpTo most old new = (bytes : List ℕ) × Consumes old new bytes × (length bytes ≤ most)
