use Rattle.std.proofs.Common.{arith, map}
use Rattle.seatmelon_reading.specs.Tapes.{taped_as}
use Rattle.seatmelon_suppose.specs.Spelling.{packet_supposed}
use Rattle.seatmelon_suppose.proofs.Crossed.{takes-more}
use Rattle.seatmelon_suppose.proofs.mending.Mending.add_all_supposed.Goals as goal

pub loop-one-preserved : goal.loop-one-preserved
loop-one-preserved c =
    takes-more c.args.self.now c.loop-one.self c.add_if_before.new.self (packet_supposed c.args.params.now (map taped_as c.args.packets.now) c.args.number)
    c.args.place c.args.supposed.now c.loop-one.one-index _ (omega (arith, c.loop-one-test.true)) c.loop-one.invariant c.in_ok-add_if_before.ensures
