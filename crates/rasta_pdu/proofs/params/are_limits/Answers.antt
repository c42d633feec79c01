use Rattle.std.proofs.Common.{rules}
use Rattle.rasta_pdu.proofs.params.are_limits.Goals as goal

pub returns-then-contains : goal.returns-then-contains
returns-then-contains c = search rules
