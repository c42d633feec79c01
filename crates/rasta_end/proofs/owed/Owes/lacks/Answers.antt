use Rattle.std.proofs.Common.{rules}
use Rattle.rasta_end.proofs.owed.Owes.lacks.Goals as goal

pub returns-in_default : goal.returns-in_default
returns-in_default c = search rules
