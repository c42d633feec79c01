use Rattle.std.proofs.Common.{rules}
use Rattle.rasta_pcap.proofs.pcap.Endianness.of.Goals as goal

pub returns-else-big-2 : goal.returns-else-big-2
returns-else-big-2 c = search rules
