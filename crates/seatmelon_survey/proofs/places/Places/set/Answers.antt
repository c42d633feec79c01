use Rattle.std.proofs.Common.{rules}
use Rattle.seatmelon_survey.proofs.places.Places.set.Goals as goal

pub invariant_of-self : goal.invariant_of-self
invariant_of-self c = search rules

pub returns-clause-last : goal.returns-clause-last
returns-clause-last c = search rules

pub returns-clause-opened : goal.returns-clause-opened
returns-clause-opened c = search rules
