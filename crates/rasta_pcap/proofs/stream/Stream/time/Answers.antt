use Rattle.std.proofs.Common.{rules}
use Rattle.rasta_pcap.proofs.stream.Stream.time.Goals as goal

pub returns : goal.returns
returns g c = search rules
