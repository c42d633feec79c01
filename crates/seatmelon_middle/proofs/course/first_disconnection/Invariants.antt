use Rattle.std.proofs.Common.{◌≡◌, [], take}
use Rattle.std.specs.Prelude.{filter_map}
use Rattle.seatmelon_middle.specs.Course.{disconnection_in}
use Rattle.seatmelon_middle.proofs.course.first_disconnection.Given as goal

-- none of the first copies up to there is one
abbrev pub invariant-loop-position : goal.invariant-loop-position
invariant-loop-position l = filter_map (disconnection_in l.side) (take l.position l.copies) ≡ []
