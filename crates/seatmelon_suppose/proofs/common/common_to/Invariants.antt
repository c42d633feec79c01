use Rattle.std.proofs.Common.{◌∷◌, take}
use Rattle.seatmelon_suppose.specs.Common.{IsCommon}
use Rattle.seatmelon_suppose.proofs.common.common_to.Given as goal

-- what is told is the same under each filling up to there
abbrev pub invariant-loop-filling : goal.invariant-loop-filling
invariant-loop-filling l = IsCommon l.sender (l.first ∷ take l.filling-index l.others) l.told.items
