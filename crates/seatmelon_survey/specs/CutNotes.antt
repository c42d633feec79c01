-- What is noted of datagrams that weren't captured whole.
use Rattle.std.specs.Prelude.{ℕ, List, []}
use Rattle.seatmelon_survey.specs.declared.cuts.CutCount.{CutCount}
use Rattle.seatmelon_survey.specs.declared.cuts.Direction.{Direction}

-- how many there are of each direction that is told apart, how many there are, and how many of them are of further
-- directions
pub record CutNotes : Type 0 where
  pub entries : List (Direction × CutCount)
  pub datagrams : ℕ
  pub further : ℕ

abbrev pub no_cuts : CutNotes
no_cuts = record { entries = []; datagrams = 0; further = 0 }
