use Rattle.std.proofs.Common.{rules}
use Rattle.rasta_end.proofs.end.End.try_make.Goals as goal

pub returns-in-Some-clause-err : goal.returns-in-Some-clause-err
returns-in-Some-clause-err c = search rules
