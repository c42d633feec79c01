use Rattle.std.proofs.Common.{rules}
use Rattle.rasta_pcap.proofs.stream.Stream.into_inner.Goals as goal

pub returns : goal.returns
returns g c = search rules
