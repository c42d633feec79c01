use Rattle.std.proofs.Common.{rules}
use Rattle.seatmelon_survey.proofs.places.Ends.of.Goals as goal

pub returns-clause-low : goal.returns-clause-low
returns-clause-low c = search rules
