use Rattle.std.proofs.Common.{rules}
use Rattle.rasta_pdu.proofs.params.Params.first_record.Goals as goal

pub returns-clause-value : goal.returns-clause-value
returns-clause-value c = search rules
