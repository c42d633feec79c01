use Rattle.std.proofs.Common.{rules}
use Rattle.seatmelon_connections.proofs.numbers.Numbers.sighting_of.Goals as goal

pub returns-in-Behind : goal.returns-in-Behind
returns-in-Behind c = search rules
