use Rattle.std.proofs.Common.{[], ◌∷◌, map}
use Rattle.seatmelon_reading.specs.Tapes.{taped_as}
use Rattle.seatmelon_suppose.proofs.Supposing.{adds-then}
use Rattle.seatmelon_suppose.proofs.supposition.Ways.fillings.Goals as goal

pub loop-number-preserved : goal.loop-number-preserved
loop-number-preserved c =
    adds-then c.args.self.params.now (map taped_as c.args.self.packets.now) c.args.self.most (c.args.first ∷ []) c.loop-number.fillings.items
    c.add_others.new.fillings.items c.loop-number.invariant c.in_ok-add_others.ensures
