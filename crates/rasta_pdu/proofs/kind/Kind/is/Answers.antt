use Rattle.std.proofs.Common.{rules}
use Rattle.rasta_pdu.proofs.kind.Kind.is.Goals as goal

pub returns : goal.returns
returns c = search rules
