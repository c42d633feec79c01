use Rattle.std.proofs.Common.{rules}
use Rattle.rasta_pcap.proofs.pcap.Pcap.next_record.Goals as goal

pub returns-then-after-captured-clause-moves : goal.returns-then-after-captured-clause-moves
returns-then-after-captured-clause-moves c = search rules

pub returns-then-after-captured-clause-found : goal.returns-then-after-captured-clause-found
returns-then-after-captured-clause-found c = search rules

pub returns-clause-found : goal.returns-clause-found
returns-clause-found c = search rules

pub returns-clause-moves : goal.returns-clause-moves
returns-clause-moves c = search rules
