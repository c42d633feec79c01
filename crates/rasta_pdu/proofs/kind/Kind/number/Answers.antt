use Rattle.std.proofs.Common.{rules}
use Rattle.rasta_pdu.proofs.kind.Kind.number.Goals as goal

pub returns-in-Heartbeat : goal.returns-in-Heartbeat
returns-in-Heartbeat c = search rules
