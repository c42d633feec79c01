use Rattle.std.proofs.Common.{rules}
use Rattle.rasta_pcap.proofs.fault.Fault.of_end.Goals as goal

pub returns : goal.returns
returns c = search rules
