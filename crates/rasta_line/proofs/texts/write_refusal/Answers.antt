use Rattle.std.proofs.Common.{rules}
use Rattle.rasta_line.proofs.texts.write_refusal.Goals as goal

pub returns-clause-answered : goal.returns-clause-answered
returns-clause-answered g c = search rules

pub returns-clause-out : goal.returns-clause-out
returns-clause-out g c = search rules

pub returns-in_err-write_all-clause-out : goal.returns-in_err-write_all-clause-out
returns-in_err-write_all-clause-out g c = search rules
