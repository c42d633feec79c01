use Rattle.std.proofs.Common.{rules}
use Rattle.rasta_build.proofs.peer.Peer.position_named.Goals as goal

pub returns : goal.returns
returns g c = search rules
