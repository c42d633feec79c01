use Rattle.std.proofs.Common.{rules}
use Rattle.seatmelon_commands.proofs.explaining.status_of_outcome.Goals as goal

pub returns-in-Refused : goal.returns-in-Refused
returns-in-Refused c = search rules
