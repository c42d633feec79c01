use Rattle.std.proofs.Common.{rules}
use Rattle.trials_plain.proofs.taken.confirmed_position.Goals as goal

pub returns-else-is : goal.returns-else-is
returns-else-is c = search rules
