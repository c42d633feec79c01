use Rattle.std.proofs.Common.{rules}
use Rattle.rasta_end.proofs.owed.Owes.without_first.Goals as goal

pub returns-else-self-gt0-clause-list : goal.returns-else-self-gt0-clause-list
returns-else-self-gt0-clause-list c = search rules
