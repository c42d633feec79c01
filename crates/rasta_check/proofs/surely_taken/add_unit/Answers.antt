use Rattle.std.proofs.Common.{arith}
use Rattle.rasta_check.proofs.Verdict.ListSteps.{proved_copy, added_more}
use Rattle.rasta_check.proofs.surely_taken.add_unit.Goals as goal

pub returns-in_ok-add_messages-in-Some : goal.returns-in_ok-add_messages-in-Some
returns-in_ok-add_messages-in-Some c copies = grind (arith, proved_copy, added_more)
