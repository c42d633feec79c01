use Rattle.std.proofs.Common.{rules}
use Rattle.rasta_pcap.proofs.counted.RefMutSource.read.Goals as goal

pub returns-clause-bytes : goal.returns-clause-bytes
returns-clause-bytes g c = search rules

pub returns-clause-counted : goal.returns-clause-counted
returns-clause-counted g c = search rules
