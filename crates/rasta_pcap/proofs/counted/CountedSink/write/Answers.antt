use Rattle.std.proofs.Common.{rules}
use Rattle.rasta_pcap.proofs.counted.CountedSink.write.Goals as goal

pub returns-in-Ok-clause-counted : goal.returns-in-Ok-clause-counted
returns-in-Ok-clause-counted g c = search rules
