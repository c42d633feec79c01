use Rattle.std.proofs.Common.{arith, map}
use Rattle.seatmelon_reading.specs.Tapes.{taped_as}
use Rattle.seatmelon_suppose.proofs.Crossed.{mended-next}
use Rattle.seatmelon_suppose.proofs.mending.mend.Goals as goal

pub loop-place-preserved : goal.loop-place-preserved
loop-place-preserved c =
    mended-next c.args.params.now (map taped_as c.args.packets.now) c.args.supposed.now c.args.first.now c.loop-place.place c.index-first-place.result
    c.loop-place.mending c.add_at.new.self (omega (arith, c.loop-place-test.true)) c.index-first-place.is c.loop-place.invariant c.in-Ok.ensures
