use Rattle.std.proofs.Common.{arith}
use Rattle.seatmelon_suppose.proofs.Listing.{captured-next}
use Rattle.seatmelon_suppose.proofs.filling.captured_among.Goals as goal

pub loop-one-preserved : goal.loop-one-preserved
loop-one-preserved c =
    captured-next c.args.origins.now c.args.taken.now c.loop-one.one-index _ c.loop-one.listed.items c.add_captured.new.listed.items
    (omega (arith, c.loop-one-test.true)) c.loop-one.invariant c.in_ok-add_captured.ensures
