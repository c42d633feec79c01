use Rattle.std.proofs.Common.{rules}
use Rattle.rasta_pdu.proofs.pdu.Pdu.has_bytes_of.Goals as goal

pub returns-then-eq-2 : goal.returns-then-eq-2
returns-then-eq-2 c = search rules
