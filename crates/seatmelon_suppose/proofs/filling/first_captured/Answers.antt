use Rattle.std.proofs.Common.{arith, sym}
use Rattle.seatmelon_suppose.proofs.Shown.{none-more, place-found}
use Rattle.seatmelon_suppose.proofs.filling.first_captured.Goals as goal

pub returns-in-Some : goal.returns-in-Some
returns-in-Some c =
    sym (place-found c.args.origins.now c.loop-origin.origin-index c.in-Some.place _ (omega (arith, c.loop-origin-test.true)) c.in-Some.is c.loop-origin.invariant)

pub loop-origin-preserved : goal.loop-origin-preserved
loop-origin-preserved c =
    none-more c.args.origins.now c.loop-origin.origin-index _ (omega (arith, c.loop-origin-test.true)) c.in_default.is c.loop-origin.invariant
