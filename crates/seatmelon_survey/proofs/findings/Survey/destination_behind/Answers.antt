use Rattle.std.proofs.Common.{rules}
use Rattle.seatmelon_survey.proofs.findings.Survey.destination_behind.Goals as goal

pub returns-in-Some : goal.returns-in-Some
returns-in-Some c = search rules

pub returns-in_default : goal.returns-in_default
returns-in_default c = search rules
