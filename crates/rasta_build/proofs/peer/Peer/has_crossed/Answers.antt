use Rattle.std.proofs.Common.{rules}
use Rattle.rasta_build.proofs.peer.Peer.has_crossed.Goals as goal

pub returns-in-Some : goal.returns-in-Some
returns-in-Some g c = search rules
