use Rattle.std.proofs.lemmas.Grind.{common_steps}
use Rattle.std.proofs.Common.{arith, rules}
use Rattle.rasta_cert.proofs.front.reason.Goals as goal

pub returns-in_ok-unit-clause-line : goal.returns-in_ok-unit-clause-line
returns-in_ok-unit-clause-line c = grind (arith, common_steps)

pub returns-then-starts_with-2-clause-line : goal.returns-then-starts_with-2-clause-line
returns-then-starts_with-2-clause-line c = grind (arith, common_steps)

pub returns-then-starts_with-8-clause-none : goal.returns-then-starts_with-8-clause-none
returns-then-starts_with-8-clause-none c = search rules
