use Rattle.seatmelon_commands.proofs.Telling.{outcome_explained, outcome_judged, outcome_told}
use Rattle.seatmelon_commands.proofs.explanation.explain.Goals as goal

pub returns-clause-explained : goal.returns-clause-explained
returns-clause-explained g c = outcome_explained c.args.inputs.now c.in_ok-reading.reading _ c.tell.result c.in_ok-reading.ensures.read c.tell.ensures.told

pub returns-clause-judged : goal.returns-clause-judged
returns-clause-judged g c = outcome_judged c.args.inputs.now c.in_ok-reading.reading c.tell.result c.tell.ensures.told

pub returns-clause-told : goal.returns-clause-told
returns-clause-told g c = outcome_told c.args.inputs.now c.in_ok-reading.reading _ c.tell.result c.in_ok-reading.ensures.read c.tell.ensures.told
