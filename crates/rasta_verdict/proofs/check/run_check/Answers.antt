use Rattle.std.proofs.Common.{rules}
use Rattle.rasta_verdict.proofs.check.run_check.Goals as goal

pub returns-clause-begun : goal.returns-clause-begun
returns-clause-begun g c = search rules

pub returns-clause-text : goal.returns-clause-text
returns-clause-text g c = search rules
