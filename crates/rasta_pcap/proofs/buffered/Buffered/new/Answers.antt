use Rattle.std.proofs.Common.{rules}
use Rattle.rasta_pcap.proofs.buffered.Buffered.new.Goals as goal

pub returns-clause-source : goal.returns-clause-source
returns-clause-source g c = search rules
