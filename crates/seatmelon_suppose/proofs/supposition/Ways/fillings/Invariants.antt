use Rattle.std.proofs.Common.{[], ◌∷◌, map}
use Rattle.seatmelon_reading.specs.Tapes.{taped_as}
use Rattle.seatmelon_suppose.specs.Supposition.{AddsJudged}
use Rattle.seatmelon_suppose.proofs.supposition.Ways.fillings.Given as goal

-- each filling so far, behind the first, was judged
abbrev pub invariant-loop-number : goal.invariant-loop-number
invariant-loop-number l = AddsJudged l.self.params.now (map taped_as l.self.packets.now) l.self.most (l.fn.first ∷ []) l.fillings.items
