use Rattle.std.proofs.Common.{arith}
use Rattle.seatmelon_audit.proofs.Ends.{line_refused}
use Rattle.seatmelon_audit.proofs.line.Line.end.Goals as goal

pub returns-then-fault-last_record-clause-line : goal.returns-then-fault-last_record-clause-line
returns-then-fault-last_record-clause-line c =
    let refused = c.refuse.ensures in
    line_refused c.args.self.now c.refuse.new.self c.args.fault c.subject_behind-subject.result c.in-Reading.is (omega (arith, c.if-fault-last_record.true, c.last_record.ensures.value))
    c.subject_behind-subject.ensures refused.kept.0 refused.kept.1 refused.kept.2 refused.kept.3 refused.kept.5 refused.standing refused.shown
