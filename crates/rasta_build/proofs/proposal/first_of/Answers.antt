use Rattle.std.proofs.Common.{rules}
use Rattle.rasta_build.proofs.proposal.first_of.Goals as goal

pub returns-in-Some-Some : goal.returns-in-Some-Some
returns-in-Some-Some c = search rules

pub returns-in_default-Some : goal.returns-in_default-Some
returns-in_default-Some c = search rules
