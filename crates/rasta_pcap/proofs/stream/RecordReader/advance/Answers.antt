use Rattle.std.proofs.Common.{rules}
use Rattle.rasta_pcap.proofs.stream.RecordReader.advance.Goals as goal

pub returns-clause-idle : goal.returns-clause-idle
returns-clause-idle g c = search rules

pub returns-clause-step : goal.returns-clause-step
returns-clause-step g c = search rules
