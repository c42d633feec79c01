use Rattle.std.proofs.Common.{rules}
use Rattle.rasta_line.proofs.messages.write_message.Goals as goal

pub returns-then-is_empty-clause-out : goal.returns-then-is_empty-clause-out
returns-then-is_empty-clause-out g c = search rules
