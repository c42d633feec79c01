use Rattle.std.proofs.Common.{rules}
use Rattle.rasta_line.proofs.texts.end_name.Goals as goal

pub returns-in-None-clause-text : goal.returns-in-None-clause-text
returns-in-None-clause-text c = search rules
