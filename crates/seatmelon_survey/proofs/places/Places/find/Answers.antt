use Rattle.std.proofs.Common.{rules}
use Rattle.seatmelon_survey.proofs.places.Places.find.Goals as goal

pub returns-clause-value : goal.returns-clause-value
returns-clause-value c = search rules
