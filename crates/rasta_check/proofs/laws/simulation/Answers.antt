use Rattle.rasta_check.proofs.Run.Simulation.{simulation}
use Rattle.rasta_check.proofs.laws.simulation.Goals as goal

pub returns : goal.returns
returns z p h = simulation p h.valid
