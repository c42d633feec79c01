use Rattle.std.proofs.lemmas.Grind.{common_steps}
use Rattle.std.proofs.Common.{arith}
use Rattle.rasta_check.proofs.follower.Follower.takeable.Goals as goal

pub returns-else-from-self-2 : goal.returns-else-from-self-2
returns-else-from-self-2 g c = grind (arith, common_steps)

pub returns-then-from-self-2 : goal.returns-then-from-self-2
returns-then-from-self-2 g c = grind (arith, common_steps)
