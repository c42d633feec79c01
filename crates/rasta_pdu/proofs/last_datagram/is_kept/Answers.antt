use Rattle.std.proofs.Common.{rules}
use Rattle.rasta_pdu.proofs.last_datagram.is_kept.Goals as goal

pub returns-then-not-is_empty : goal.returns-then-not-is_empty
returns-then-not-is_empty c = search rules
