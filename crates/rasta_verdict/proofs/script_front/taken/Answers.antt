use Rattle.std.proofs.Common.{rules}
use Rattle.rasta_verdict.proofs.script_front.taken.Goals as goal

pub returns-else-slot-level : goal.returns-else-slot-level
returns-else-slot-level c = search rules

pub returns-then-slot-level : goal.returns-then-slot-level
returns-then-slot-level c = search rules
