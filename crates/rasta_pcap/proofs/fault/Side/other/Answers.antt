use Rattle.std.proofs.Common.{rules}
use Rattle.rasta_pcap.proofs.fault.Side.other.Goals as goal

pub returns-in-Server : goal.returns-in-Server
returns-in-Server c = search rules
