-- Where connections stand, by two tables.
use Rattle.std.specs.Prelude.{◌≡◌, ℕ, Bool, false, ◌==◌, ◌&&◌, List, Option, Some, None}
use Rattle.std.specs.Map.{lookup}
use Rattle.seatmelon_survey.specs.declared.places.Ends.{Ends}
use Rattle.seatmelon_survey.specs.declared.places.Opening.{Opening}
use Rattle.seatmelon_survey.specs.declared.places.Placed.{Placed}

-- the entries of the tables, in any order: the place of the last connection between two ends, and that of the
-- connection that a request opened; and for how many more connections there is room
pub record Tables : Type 0 where
  pub last : List (Ends × ℕ)
  pub opened : List (Opening × ℕ)
  pub room : ℕ

abbrev pub same_ends : Ends → Ends → Bool
same_ends a b = (a.low == b.low) && (a.high == b.high)

abbrev pub same_opening : Opening → Opening → Bool
same_opening a b = same_ends a.ends b.ends && (a.hash == b.hash)

-- the place of the last connection between two ends
abbrev pub last_at : Tables → Ends → Option ℕ
last_at t e = lookup (same_ends e) t.last

-- the place of the connection that a request opened
abbrev pub opened_at : Tables → Opening → Option ℕ
opened_at t o = lookup (same_opening o) t.opened

-- a request is this one, if there is one
abbrev pub is_opening : Option Opening → Opening → Bool
is_opening None o = false
is_opening (Some opening) o = same_opening opening o

-- what was asked for last is as the table has it
abbrev pub IsAsTableHasIt : List (Ends × ℕ) → Option Placed → Type 0
IsAsTableHasIt last None = Unit {0}
IsAsTableHasIt last (Some placed) = lookup (same_ends placed.ends) last ≡ Some placed.place
