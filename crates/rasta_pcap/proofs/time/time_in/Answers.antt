use Rattle.std.proofs.Common.{rules}
use Rattle.rasta_pcap.proofs.time.time_in.Goals as goal

pub returns : goal.returns
returns c = search rules
