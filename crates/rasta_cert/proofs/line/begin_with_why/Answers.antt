use Rattle.std.proofs.Common.{rules}
use Rattle.rasta_cert.proofs.line.begin_with_why.Goals as goal

pub returns-in-Again-clause-line : goal.returns-in-Again-clause-line
returns-in-Again-clause-line c = search rules
