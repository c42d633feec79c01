use Rattle.rasta_check.proofs.Run.Worlds.{reaches_of, runs_of}
use Rattle.rasta_check.proofs.laws.same_runs.Goals as goal

pub returns : goal.returns
returns z p = (reaches_of p, runs_of p)
