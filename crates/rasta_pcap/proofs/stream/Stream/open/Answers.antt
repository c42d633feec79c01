use Rattle.std.proofs.Common.{rules}
use Rattle.rasta_pcap.proofs.stream.Stream.open.Goals as goal

pub returns-clause-bounded : goal.returns-clause-bounded
returns-clause-bounded g c = search rules

pub returns-clause-opened : goal.returns-clause-opened
returns-clause-opened g c = search rules

pub returns-clause-unit : goal.returns-clause-unit
returns-clause-unit g c = search rules

pub returns-in_err-records-clause-err : goal.returns-in_err-records-clause-err
returns-in_err-records-clause-err g c = search rules
