use Rattle.std.proofs.Common.{rules}
use Rattle.rasta_pdu.proofs.quiet_point.Quiet.of.Goals as goal

pub returns-in-Server : goal.returns-in-Server
returns-in-Server c = search rules
