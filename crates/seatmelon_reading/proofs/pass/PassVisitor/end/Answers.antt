use Rattle.seatmelon_reading.proofs.Seen.{end_seen, where_all}
use Rattle.seatmelon_reading.proofs.pass.PassVisitor.end.Goals as goal

pub returns-clause-ended : goal.returns-clause-ended
returns-clause-ended c =
    let ended = c.add_fault.ensures in
    where_all c.add_fault.result
    (λ standing told still keeps. end_seen c.args.self.now c.add_fault.new.self c.args.fault standing still keeps ended.kept)
    ended.standing ended.told ended.still ended.unjudged
