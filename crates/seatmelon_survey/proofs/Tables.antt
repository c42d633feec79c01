-- Tables of places.
use Rattle.std.proofs.Common.{◌≡◌, ◌∙◌, ℕ, List, Option, Some, None}
use Rattle.std.specs.Map.{lookup}
use Rattle.seatmelon_survey.specs.declared.places.Ends.{Ends}
use Rattle.seatmelon_survey.specs.declared.places.Placed.{Placed}
use Rattle.seatmelon_survey.specs.Places.{IsAsTableHasIt, same_ends}

-- what was asked for last is as each table has it in which the same is found
pub IsAsTableHasIt-same : (old new : List (Ends × ℕ)) (recent : Option Placed) → ((e : Ends) → lookup (same_ends e) new ≡ lookup (same_ends e) old)
    → IsAsTableHasIt old recent → IsAsTableHasIt new recent
IsAsTableHasIt-same old new None same is = tt
IsAsTableHasIt-same old new (Some placed) same is = same placed.ends ∙ is
