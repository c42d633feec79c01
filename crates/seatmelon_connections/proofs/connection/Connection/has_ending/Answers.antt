use Rattle.std.proofs.Common.{rules}
use Rattle.seatmelon_connections.proofs.connection.Connection.has_ending.Goals as goal

pub returns-else-is_some : goal.returns-else-is_some
returns-else-is_some c = search rules

pub returns-then-is_some : goal.returns-then-is_some
returns-then-is_some c = search rules
