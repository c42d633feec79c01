use Rattle.std.proofs.Common.{rules}
use Rattle.rasta_pdu.proofs.code.is_code.Goals as goal

pub returns : goal.returns
returns c = search rules
