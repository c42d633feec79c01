use Rattle.std.proofs.Common.{refl}
use Rattle.seatmelon_audit.proofs.reading.ReadingVisitor.end.Goals as goal

pub returns-clause-ended : goal.returns-clause-ended
returns-clause-ended c = λ done behind h. record {
  old = c.args.self.now;
  read = h;
  behind = behind;
  ends = record { lines = c.end.ensures.lines; params = c.end.ensures.params; count = refl; others = refl; kept = refl };
}
