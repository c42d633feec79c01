use Rattle.std.proofs.Common.{arith}
use Rattle.rasta_sha256.proofs.Rotations.{choice_short}
use Rattle.rasta_sha256.proofs.rounds.choice.Goals as goal

pub returns : goal.returns
returns c = choice_short c.args.x c.args.y c.args.z (omega arith) (omega arith) (omega arith)
