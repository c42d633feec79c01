use Rattle.std.proofs.Common.{rules}
use Rattle.seatmelon_connections.proofs.numbers.Numbers.compare.Goals as goal

pub returns-in-Some : goal.returns-in-Some
returns-in-Some c = search rules

pub returns-in-Some-2 : goal.returns-in-Some-2
returns-in-Some-2 c = search rules
