use Rattle.std.proofs.Common.{rules}
use Rattle.rasta_pcap.proofs.stream.RecordReader.time.Goals as goal

pub returns : goal.returns
returns c = search rules
