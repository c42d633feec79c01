use Rattle.std.proofs.Common.{rules}
use Rattle.seatmelon_connections.proofs.channel.Channels.add.Goals as goal

pub push_reserved-requires : goal.push_reserved-requires
push_reserved-requires c = search rules
