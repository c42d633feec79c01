use Rattle.std.proofs.Common.{subst, sym}
use Rattle.seatmelon_audit.specs.Sorting.{sorted_in}
use Rattle.seatmelon_audit.specs.Ways.{KnowsAll}
use Rattle.seatmelon_audit.proofs.lines.Lines.new.Goals as goal

pub returns-clause-known : goal.returns-clause-known
returns-clause-known c = subst (KnowsAll (sorted_in c.in_ok-ways.ways)) (sym c.in_ok-lines.ensures.params) c.in_ok-ways.ensures
