use Rattle.std.proofs.Common.{rules}
use Rattle.rasta_pcap.proofs.devices.FailAt.new.Goals as goal

pub returns-clause-mishap : goal.returns-clause-mishap
returns-clause-mishap g c = search rules
