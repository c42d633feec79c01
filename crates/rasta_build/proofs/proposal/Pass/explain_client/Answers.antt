use Rattle.std.proofs.Common.{rules}
use Rattle.rasta_build.proofs.proposal.Pass.explain_client.Goals as goal

pub returns-in-Err-clause-err : goal.returns-in-Err-clause-err
returns-in-Err-clause-err g c = search rules
