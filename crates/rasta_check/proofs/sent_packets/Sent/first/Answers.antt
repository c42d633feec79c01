use Rattle.std.proofs.Common.{rules}
use Rattle.rasta_check.proofs.sent_packets.Sent.first.Goals as goal

pub returns-clause-value : goal.returns-clause-value
returns-clause-value c = search rules
