use Rattle.std.proofs.Common.{map}
use Rattle.seatmelon_reading.specs.Tapes.{taped_as}
use Rattle.seatmelon_suppose.specs.Supposition.{AddsJudged}
use Rattle.seatmelon_suppose.proofs.supposition.Ways.add_others.Given as goal

-- each filling so far was judged
abbrev pub invariant-loop-way : goal.invariant-loop-way
invariant-loop-way l = AddsJudged l.self.params.now (map taped_as l.self.packets.now) l.self.most l.fn.fillings.items l.fillings.items
