use Rattle.std.proofs.Common.{rules}
use Rattle.seatmelon_connections.proofs.late_copies.with_copy.Goals as goal

pub returns-in-Some : goal.returns-in-Some
returns-in-Some c = search rules
