use Rattle.std.proofs.Common.{rules}
use Rattle.rasta_pdu.proofs.kind.Kind.of.Goals as goal

pub returns-in-6213 : goal.returns-in-6213
returns-in-6213 c = search rules
