use Rattle.std.proofs.Common.{subst, arith}
use Rattle.seatmelon_reading.specs.Window.{StandsSo}
use Rattle.seatmelon_reading.specs.declared.window.WindowPlace.{WindowPlace}
use Rattle.seatmelon_reading.proofs.Noted.{last_before, last_behind, last_here}
use Rattle.seatmelon_reading.proofs.notes.last_with.Goals as goal

pub returns-in-Inside : goal.returns-in-Inside
returns-in-Inside c p none records r is numbered timed stands =
    let inside = subst (λ (s : WindowPlace). StandsSo p c.args.number s) c.in-Inside.is stands in
    last_here p none records r c.args.number c.args.time numbered timed inside.0 inside.1

pub returns-in-Before : goal.returns-in-Before
returns-in-Before c p none records r is numbered timed stands =
    let before = subst (λ (s : WindowPlace). StandsSo p c.args.number s) c.in-Before.is stands in
    last_before p none records r c.args.last is (omega (arith, numbered, before))

pub returns-in-Behind : goal.returns-in-Behind
returns-in-Behind c p none records r is numbered timed stands =
    let behind = (subst (λ (s : WindowPlace). StandsSo p c.args.number s) c.in-Behind.is stands).1 in
    last_behind p none records r c.args.last is (omega (arith, numbered, behind))
