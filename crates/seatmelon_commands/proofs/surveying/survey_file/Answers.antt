use Rattle.std.proofs.Common.{rules}
use Rattle.seatmelon_commands.proofs.surveying.survey_file.Goals as goal

pub returns : goal.returns
returns g c = search rules
