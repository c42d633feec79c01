use Rattle.std.proofs.Common.{◌≡◌, take}
use Rattle.seatmelon_middle.specs.Counts.{messages_captured}
use Rattle.seatmelon_middle.proofs.counts.count_captured.Given as goal

-- those of the units up to there are counted
abbrev pub invariant-loop-unit : goal.invariant-loop-unit
invariant-loop-unit l = l.count ≡ messages_captured (take l.unit-index l.units)
