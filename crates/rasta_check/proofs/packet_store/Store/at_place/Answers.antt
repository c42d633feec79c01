use Rattle.rasta_check.proofs.Internals.StoreLists.{places}
use Rattle.std.proofs.lemmas.Grind.{common_steps}
use Rattle.std.proofs.Common.{arith}
use Rattle.rasta_check.proofs.packet_store.Store.at_place.Goals as goal

pub returns-then-first_place-place-clause-value : goal.returns-then-first_place-place-clause-value
returns-then-first_place-place-clause-value c = grind (arith, common_steps, places)
