use Rattle.std.proofs.Common.{rules}
use Rattle.rasta_show.proofs.show.sight_of_datagram.Goals as goal

pub returns-in-Err-clause-sight : goal.returns-in-Err-clause-sight
returns-in-Err-clause-sight c = search rules

pub returns-in-Ok-clause-sight : goal.returns-in-Ok-clause-sight
returns-in-Ok-clause-sight c = search rules
