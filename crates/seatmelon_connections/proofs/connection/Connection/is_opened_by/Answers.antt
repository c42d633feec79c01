use Rattle.std.proofs.Common.{rules}
use Rattle.seatmelon_connections.proofs.connection.Connection.is_opened_by.Goals as goal

pub returns-in-Some-Some : goal.returns-in-Some-Some
returns-in-Some-Some c = search rules
