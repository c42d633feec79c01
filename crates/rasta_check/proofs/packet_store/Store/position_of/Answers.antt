use Rattle.rasta_check.proofs.Internals.StoreLists.{distances}
use Rattle.std.proofs.lemmas.Grind.{common_steps}
use Rattle.std.proofs.Common.{arith}
use Rattle.rasta_check.proofs.packet_store.Store.position_of.Goals as goal

pub returns-else-position-count-clause-value : goal.returns-else-position-count-clause-value
returns-else-position-count-clause-value c = grind (arith, common_steps, distances)
