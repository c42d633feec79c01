use Rattle.std.proofs.Common.{rules}
use Rattle.seatmelon_connections.proofs.connection.Connection.set_repeated.Goals as goal

pub returns : goal.returns
returns c = search rules
