use Rattle.std.proofs.Common.{map, refl}
use Rattle.seatmelon_reading.specs.Tapes.{taped_as}
use Rattle.seatmelon_suppose.proofs.Supposing.{adds-none, adds-then}
use Rattle.seatmelon_suppose.proofs.supposition.Ways.add_others.Goals as goal

pub loop-way-init : goal.loop-way-init
loop-way-init c = adds-none c.args.self.params.now (map taped_as c.args.self.packets.now) c.args.self.most c.args.fillings.now.items c.args.fillings.now.items refl

pub loop-way-preserved : goal.loop-way-preserved
loop-way-preserved c =
    adds-then c.args.self.params.now (map taped_as c.args.self.packets.now) c.args.self.most c.args.fillings.now.items c.loop-way.fillings.items
    c.add_way.new.fillings.items c.loop-way.invariant c.in_ok-add_way.ensures
