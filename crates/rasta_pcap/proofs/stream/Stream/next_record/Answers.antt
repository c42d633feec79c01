use Rattle.std.proofs.Common.{rules}
use Rattle.rasta_pcap.proofs.stream.Stream.next_record.Goals as goal

pub returns-in_err-number : goal.returns-in_err-number
returns-in_err-number g c = search rules

pub returns-in_default : goal.returns-in_default
returns-in_default g c = search rules

pub returns : goal.returns
returns g c = search rules
