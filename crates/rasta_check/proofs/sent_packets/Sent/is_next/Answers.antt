use Rattle.std.proofs.Common.{rules}
use Rattle.rasta_check.proofs.sent_packets.Sent.is_next.Goals as goal

pub returns-in-Some : goal.returns-in-Some
returns-in-Some c = search rules
