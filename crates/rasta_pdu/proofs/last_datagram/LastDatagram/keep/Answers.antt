use Rattle.std.proofs.Common.{rules}
use Rattle.rasta_pdu.proofs.last_datagram.LastDatagram.keep.Goals as goal

pub returns-then-not-copies-clause-kept : goal.returns-then-not-copies-clause-kept
returns-then-not-copies-clause-kept c = search rules
