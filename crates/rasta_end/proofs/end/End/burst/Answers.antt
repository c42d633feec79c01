use Rattle.std.proofs.Common.{rules}
use Rattle.rasta_end.proofs.end.End.burst.Goals as goal

pub returns-clause-list : goal.returns-clause-list
returns-clause-list c = search rules
