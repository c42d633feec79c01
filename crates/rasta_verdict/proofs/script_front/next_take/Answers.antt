use Rattle.std.proofs.Common.{sym}
use Rattle.rasta_verdict.proofs.Ordered.{no_takes_empty, no_takes_in, where_none}
use Rattle.rasta_verdict.proofs.script_front.next_take.Goals as goal

pub returns-in_err-entry-clause-none : goal.returns-in_err-entry-clause-none
returns-in_err-entry-clause-none c =
    where_none c.from_residual.result (no_takes_empty c.args.level c.args.script.now c.in_err-entry.ensures.cases)

pub returns-in_err-number-clause-none : goal.returns-in_err-number-clause-none
returns-in_err-number-clause-none c = where_none c.from_residual-in_err-number.result
    (no_takes_in c.args.level c.args.script.now c.in_ok-entry.rest.now c.in_ok-entry.entry.now c.in_ok-entry.ensures.cases.0 c.requires (sym c.in_err-number.ensures))
