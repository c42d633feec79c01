use Rattle.std.proofs.Common.{◌≡◌, filter, length, take}
use Rattle.seatmelon_middle.specs.Course.{is_behind}
use Rattle.seatmelon_middle.proofs.course.count_behind.Given as goal

-- those up to there were counted
abbrev pub invariant-loop-position : goal.invariant-loop-position
invariant-loop-position l = l.count ≡ length (filter (is_behind l.place) (take l.position l.copies))
