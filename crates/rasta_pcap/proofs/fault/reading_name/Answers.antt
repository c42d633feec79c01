use Rattle.rasta_pcap.specs.Fault.{name_of}
use Rattle.std.proofs.Common.{rules}
use Rattle.rasta_pcap.proofs.fault.reading_name.Goals as goal

pub returns-in-13-clause-text : goal.returns-in-13-clause-text
unfolding name_of
returns-in-13-clause-text c = search rules
