use Rattle.std.proofs.Common.{◌∙◌, refl, sym}
use Rattle.seatmelon_reading.proofs.Moments.{times_next, times_same}
use Rattle.seatmelon_reading.proofs.times.TimeNotes.add.Goals as goal

pub returns-in_default : goal.returns-in_default
returns-in_default c zero records r h few numbered timed = times_same zero records r c.args.self.now h (sym c.in_default.is ∙ timed)

pub returns : goal.returns
returns c zero records r h few numbered timed =
    times_next zero records r c.args.self.now _ c.falls-falls.result c.is_overlong.result c.in-Some.time c.args.number h few numbered (sym c.in-Some.is ∙ timed)
    c.falls-falls.ensures c.is_overlong.ensures c.add_if.ensures c.add_if-2.ensures refl
