use Rattle.std.proofs.Common.{rules}
use Rattle.rasta_end.proofs.end.End.phase.Goals as goal

pub returns : goal.returns
returns c = search rules
