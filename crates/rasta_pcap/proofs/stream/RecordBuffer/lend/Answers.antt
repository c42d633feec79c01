use Rattle.std.proofs.Common.{rules}
use Rattle.rasta_pcap.proofs.stream.RecordBuffer.lend.Goals as goal

pub returns-clause-bytes : goal.returns-clause-bytes
returns-clause-bytes c = search rules
