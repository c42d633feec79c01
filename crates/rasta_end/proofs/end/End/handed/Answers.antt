use Rattle.std.proofs.Common.{rules}
use Rattle.rasta_end.proofs.end.End.handed.Goals as goal

pub returns : goal.returns
returns c = search rules
