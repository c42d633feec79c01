use Rattle.rasta_check.proofs.Run.LineCounts.{one_line_each}
use Rattle.rasta_check.proofs.laws.one_line_each.Goals as goal

pub returns : goal.returns
returns z p = one_line_each p
