use Rattle.std.proofs.Common.{rules}
use Rattle.rasta_end.proofs.deadline.is_past.Goals as goal

pub returns-in-Some : goal.returns-in-Some
returns-in-Some c = search rules
