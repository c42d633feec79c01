use Rattle.std.proofs.Common.{rules}
use Rattle.rasta_pcap.proofs.counted.Counted.new.Goals as goal

pub returns-clause-none : goal.returns-clause-none
returns-clause-none g c = search rules
