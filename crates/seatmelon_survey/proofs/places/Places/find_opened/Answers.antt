use Rattle.std.proofs.Common.{rules}
use Rattle.seatmelon_survey.proofs.places.Places.find_opened.Goals as goal

pub returns : goal.returns
returns c = search rules
