use Rattle.std.proofs.Common.{rules}
use Rattle.rasta_end.proofs.end.End.follow.Goals as goal

pub returns-in-Gap-clause-ok : goal.returns-in-Gap-clause-ok
returns-in-Gap-clause-ok c = search rules
