use Rattle.std.proofs.Common.{refl, arith}
use Rattle.seatmelon_reading.proofs.Noted.{passed}
use Rattle.seatmelon_reading.proofs.Sorts.{passed_next}
use Rattle.seatmelon_reading.proofs.notes.Notes.pass.Goals as goal

pub returns-clause-noted : goal.returns-clause-noted
returns-clause-noted c p without records r noted numbered next timed stands none why =
    passed p without records r c.args.self.now _ noted (record { untimed = refl; packets = refl; channels = refl; before = refl; behind = refl; tape = refl }) next none
    (passed_next p without records r c.args.self.now.passed c.with-self.result c.args.why c.args.number noted.passed (omega (arith, next)) c.ranges.number.fits why c.with-self.ensures)
    (c.add.ensures c.args.self.now.zero_is_no_time records r noted.times (omega (arith, next, c.ranges.number.fits)) numbered timed)
    (c.last_with-self.ensures p c.args.self.now.zero_is_no_time records r noted.last numbered timed stands)
