use Rattle.std.proofs.Common.{rules}
use Rattle.rasta_cert.proofs.front.number_before.Goals as goal

pub returns-in-None-clause-none : goal.returns-in-None-clause-none
returns-in-None-clause-none c = search rules
