use Rattle.rasta_check.proofs.Capture.Positions.{near, far}
use Rattle.std.proofs.lemmas.Grind.{common_steps}
use Rattle.std.proofs.Common.{arith}
use Rattle.rasta_check.proofs.dense_list.DenseListSentList.position_of.Goals as goal

pub returns-else-position-len-clause-value : goal.returns-else-position-len-clause-value
returns-else-position-len-clause-value c = grind (arith, common_steps, near, far)

pub returns-then-position-len-clause-value : goal.returns-then-position-len-clause-value
returns-then-position-len-clause-value c = grind (arith, common_steps, near, far)
