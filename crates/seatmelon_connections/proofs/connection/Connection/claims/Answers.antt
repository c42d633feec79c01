use Rattle.std.proofs.Common.{rules}
use Rattle.seatmelon_connections.proofs.connection.Connection.claims.Goals as goal

pub returns-in-Some-TooOld : goal.returns-in-Some-TooOld
returns-in-Some-TooOld c = search rules
