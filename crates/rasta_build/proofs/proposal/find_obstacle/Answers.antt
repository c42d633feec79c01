use Rattle.std.proofs.Common.{rules}
use Rattle.rasta_build.proofs.proposal.find_obstacle.Goals as goal

pub returns-clause-met : goal.returns-clause-met
returns-clause-met g c = search rules
