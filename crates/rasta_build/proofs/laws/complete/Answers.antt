use Rattle.rasta_build.proofs.Theorem.{complete}
use Rattle.rasta_build.proofs.laws.complete.Goals as goal

pub returns : goal.returns
returns z p c s h = complete p c s h
