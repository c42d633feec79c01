use Rattle.std.proofs.Common.{rules}
use Rattle.rasta_pcap.proofs.stream.RecordBuffer.read.Goals as goal

pub returns-clause-filled : goal.returns-clause-filled
returns-clause-filled g c = search rules
