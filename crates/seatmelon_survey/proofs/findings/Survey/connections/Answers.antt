use Rattle.std.proofs.Common.{rules}
use Rattle.seatmelon_survey.proofs.findings.Survey.connections.Goals as goal

pub returns : goal.returns
returns c = search rules
