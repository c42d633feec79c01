use Rattle.std.proofs.Common.{sym}
use Rattle.rasta_verdict.proofs.Ordered.{goes_up_in, no_makes_empty, no_makes_in, one_make, same_makes, same_takes}
use Rattle.rasta_verdict.proofs.script_front.pass_make.Goals as goal

pub returns-in_default-clause-made : goal.returns-in_default-clause-made
returns-in_default-clause-made c = sym (no_makes_empty c.args.place c.args.script.now c.in_default.ensures.cases)

pub returns-in-Some-made-clause-made : goal.returns-in-Some-made-clause-made
returns-in-Some-made-clause-made c = sym (one_make c.args.place c.args.script.now c.in-Some.rest.now c.in-Some.entry.now
    c.in-Some.ensures.cases.0 c.requires.order c.in-Some-made.made.clock c.in-Some-made.made.why (sym c.in-Some-made.ensures))

pub returns-in-Some-made-clause-takes : goal.returns-in-Some-made-clause-takes
returns-in-Some-made-clause-takes c = same_takes c.args.place c.args.script.now c.in-Some.rest.now c.in-Some.entry.now
    c.in-Some.ensures.cases.0 c.requires.order c.in-Some-made.made.clock c.in-Some-made.made.why (sym c.in-Some-made.ensures)

pub returns-in-Some-made-clause-makes : goal.returns-in-Some-made-clause-makes
returns-in-Some-made-clause-makes c = same_makes c.args.place c.args.script.now c.in-Some.rest.now c.in-Some.entry.now
    c.in-Some.ensures.cases.0 c.requires.order c.in-Some-made.made.clock c.in-Some-made.made.why (sym c.in-Some-made.ensures)

pub returns-in-None-clause-made : goal.returns-in-None-clause-made
returns-in-None-clause-made c = sym (no_makes_in c.args.place c.args.script.now c.in-Some.rest.now c.in-Some.entry.now
    c.in-Some.ensures.cases.0 c.requires.order c.requires.no_takes (sym c.in-None.ensures))

pub returns-in-None-clause-order : goal.returns-in-None-clause-order
returns-in-None-clause-order c = goes_up_in c.args.place c.args.script.now c.in-Some.rest.now c.in-Some.entry.now
    c.in-Some.ensures.cases.0 c.requires.order c.requires.no_takes (sym c.in-None.ensures)
