use Rattle.std.proofs.Common.{rules}
use Rattle.rasta_commands.proofs.files.finish.Goals as goal

pub returns-clause-err : goal.returns-clause-err
returns-clause-err g c = search rules

pub returns-in-Ok-clause-ok : goal.returns-in-Ok-clause-ok
returns-in-Ok-clause-ok g c = search rules
