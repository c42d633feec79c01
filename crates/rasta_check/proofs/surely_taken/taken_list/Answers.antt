use Rattle.std.proofs.Common.{rules}
use Rattle.rasta_check.proofs.surely_taken.taken_list.Goals as goal

pub returns : goal.returns
returns g c = search rules
