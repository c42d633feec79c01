use Rattle.std.proofs.Common.{rules}
use Rattle.seatmelon_connections.proofs.connection.Connection.last_record.Goals as goal

pub returns : goal.returns
returns c = search rules
