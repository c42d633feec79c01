use Rattle.rasta_build.proofs.Proposals.{proposal_fits}
use Rattle.rasta_build.proofs.laws.proposals_fit.Goals as goal

pub returns : goal.returns
returns z p packets c s h = proposal_fits p packets c s h
