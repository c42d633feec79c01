use Rattle.std.proofs.Common.{rules}
use Rattle.seatmelon_commands.proofs.reading.whole_of.Goals as goal

pub returns-in-Ok : goal.returns-in-Ok
returns-in-Ok g c = search rules
