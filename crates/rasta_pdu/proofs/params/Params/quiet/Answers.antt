use Rattle.std.proofs.Common.{rules}
use Rattle.rasta_pdu.proofs.params.Params.quiet.Goals as goal

pub returns-clause-valid : goal.returns-clause-valid
returns-clause-valid c = search rules

pub returns-clause-value : goal.returns-clause-value
returns-clause-value c = search rules
