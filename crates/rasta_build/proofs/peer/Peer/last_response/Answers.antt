use Rattle.std.proofs.Common.{rules}
use Rattle.rasta_build.proofs.peer.Peer.last_response.Goals as goal

pub loop-position-preserved : goal.loop-position-preserved
loop-position-preserved g c = search rules
