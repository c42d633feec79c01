-- In which bytes a datagram differs from its first copy.
use Rattle.std.specs.Prelude.{ℕ, ◌+◌, ◌==◌, List, [], ◌∷◌, ◌++◌, if◌then◌else◌}
use Rattle.seatmelon_account.specs.declared.differences.Difference.{Difference}

-- the bytes of both at a place, if they differ
abbrev pub difference_at : ℕ → ℕ → ℕ → List Difference
difference_at at byte first = if byte == first then [] else record { at = at; byte = byte; first = first } ∷ []

-- from this place on, as far as both go
abbrev pub differing : ℕ → List ℕ → List ℕ → List Difference
differing at [] first = []
differing at (b ∷ bytes) [] = []
differing at (b ∷ bytes) (f ∷ first) = difference_at at b f ++ differing (at + 1) bytes first
