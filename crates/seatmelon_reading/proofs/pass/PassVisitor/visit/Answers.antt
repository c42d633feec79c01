use Rattle.seatmelon_reading.proofs.Seen.{next_seen, where_all}
use Rattle.seatmelon_reading.proofs.pass.PassVisitor.visit.Goals as goal

pub returns-clause-seen : goal.returns-clause-seen
returns-clause-seen c =
    let added = c.add.ensures in
    let kept = added.kept in
    where_all c.add.result
    (λ standing noted told keeps. next_seen c.args.self.now c.add.new.self (c.args.found.now.number, c.args.found.now.bytes.now) c.args.time standing noted told keeps kept.0 kept.1 kept.2 added.stays)
    added.standing added.noted added.told added.unjudged
