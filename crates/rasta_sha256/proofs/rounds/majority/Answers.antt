use Rattle.rasta_sha256.proofs.Rotations.{majority_short}
use Rattle.rasta_sha256.proofs.rounds.majority.Goals as goal

pub returns : goal.returns
returns c = majority_short c.args.x c.args.y c.args.z
