use Rattle.std.proofs.Common.{rules}
use Rattle.rasta_pcap.proofs.buffered.Buffered.fill.Goals as goal

pub returns-in-0-clause-end : goal.returns-in-0-clause-end
returns-in-0-clause-end g c = search rules
