use Rattle.std.proofs.Common.{◌≡◌, [], take}
use Rattle.seatmelon_suppose.proofs.Shown.{places}
use Rattle.seatmelon_suppose.proofs.filling.first_captured.Given as goal

-- none up to there was captured
abbrev pub invariant-loop-origin : goal.invariant-loop-origin
invariant-loop-origin l = places (take l.origin-index l.origins) ≡ []
