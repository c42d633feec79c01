use Rattle.std.proofs.Common.{rules}
use Rattle.seatmelon_commands.proofs.surveying.status_of_survey.Goals as goal

pub returns-clause-none : goal.returns-clause-none
returns-clause-none c = search rules
