use Rattle.std.proofs.Common.{rules}
use Rattle.rasta_pdu.proofs.params.Params.n_sendmax.Goals as goal

pub returns-clause-value : goal.returns-clause-value
returns-clause-value c = search rules
