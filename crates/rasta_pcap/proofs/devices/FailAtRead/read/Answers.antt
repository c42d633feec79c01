use Rattle.std.proofs.Common.{rules}
use Rattle.rasta_pcap.proofs.devices.FailAtRead.read.Goals as goal

pub returns-in-None-clause-gives : goal.returns-in-None-clause-gives
returns-in-None-clause-gives g c = search rules
