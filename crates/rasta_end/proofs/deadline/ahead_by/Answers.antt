use Rattle.std.proofs.Common.{rules}
use Rattle.rasta_end.proofs.deadline.ahead_by.Goals as goal

pub returns : goal.returns
returns c = search rules
