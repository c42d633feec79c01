use Rattle.std.proofs.lemmas.Grind.{common_steps}
use Rattle.std.proofs.Common.{arith}
use Rattle.rasta_check.proofs.sent_packets.Sent.has_room.Goals as goal

pub returns-else-not-is_new-clause-value : goal.returns-else-not-is_new-clause-value
returns-else-not-is_new-clause-value c = grind (arith, common_steps)

pub returns-then-not-is_new-clause-value : goal.returns-then-not-is_new-clause-value
returns-then-not-is_new-clause-value c = grind (arith, common_steps)
