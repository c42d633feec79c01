use Rattle.std.proofs.Common.{rules}
use Rattle.rasta_pdu.proofs.params.has_ports.Goals as goal

pub returns-then-channel-ge1 : goal.returns-then-channel-ge1
returns-then-channel-ge1 c = search rules
