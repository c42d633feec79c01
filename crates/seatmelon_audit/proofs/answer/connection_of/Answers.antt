use Rattle.seatmelon_audit.proofs.Answering.{connection_told}
use Rattle.seatmelon_audit.proofs.answer.connection_of.Goals as goal

pub returns : goal.returns
returns c = connection_told c.args.line c.outcome_of-answer.result.0 c.outcome_of-answer.result.1 c.facts_of-facts.result c.outcome_of-answer.ensures.answer c.outcome_of-answer.ensures.course c.facts_of-facts.ensures
