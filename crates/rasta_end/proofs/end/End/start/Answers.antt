use Rattle.std.proofs.Common.{rules}
use Rattle.rasta_end.proofs.end.End.start.Goals as goal

pub returns-in-None-Server : goal.returns-in-None-Server
returns-in-None-Server c = search rules
