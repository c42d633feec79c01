use Rattle.std.proofs.Common.{rules}
use Rattle.rasta_pdu.proofs.last_datagram.copy.Goals as goal

pub returns-clause-kept : goal.returns-clause-kept
returns-clause-kept c = search rules
