use Rattle.std.proofs.Common.{rules}
use Rattle.rasta_pcap.proofs.counted.CountedSource.read.Goals as goal

pub returns-else-is_err-clause-counted : goal.returns-else-is_err-clause-counted
returns-else-is_err-clause-counted g c = search rules
