use Rattle.std.proofs.Common.{rules}
use Rattle.seatmelon_connections.proofs.connection.Connection.write_draft.Goals as goal

pub returns : goal.returns
returns g c = search rules
