use Rattle.std.proofs.Common.{rules}
use Rattle.rasta_pcap.proofs.devices.FailAt.idle_at.Goals as goal

pub returns-clause-mishap : goal.returns-clause-mishap
returns-clause-mishap g c = search rules
