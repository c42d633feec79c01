use Rattle.std.proofs.Common.{refl}
use Rattle.seatmelon_audit.proofs.Readings.{next_read}
use Rattle.seatmelon_audit.proofs.reading.ReadingVisitor.visit.Goals as goal

pub returns-clause-seen : goal.returns-clause-seen
returns-clause-seen c =
    let held = c.add-held.ensures in
    next_read c.args.self.now _ _ c.args.time
    (record { lines = held.lines; params = held.params; known = held.known; count = refl; fault = refl; held = c.add-held.result; tells = held.held; others = c.count_other-self.ensures }) held.params
