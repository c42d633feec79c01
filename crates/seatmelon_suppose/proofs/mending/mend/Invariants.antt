use Rattle.std.proofs.Common.{map, take}
use Rattle.rasta_check.specs.Capture.Building.{crossed_in}
use Rattle.seatmelon_reading.specs.Tapes.{taped_as}
use Rattle.seatmelon_suppose.specs.Mending.{IsMended}
use Rattle.seatmelon_suppose.proofs.mending.mend.Given as goal

-- the packets up to there have crossed
abbrev pub invariant-loop-place : goal.invariant-loop-place
invariant-loop-place l =
    IsMended l.params (map taped_as l.packets) l.supposed (map taped_as (take l.place l.first)) (crossed_in l.mending.builder) l.mending.origins.items
