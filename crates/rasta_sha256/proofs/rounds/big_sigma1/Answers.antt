use Rattle.std.proofs.Common.{arith}
use Rattle.rasta_sha256.proofs.Rotations.{rotated_fork}
use Rattle.rasta_sha256.proofs.rounds.big_sigma1.Goals as goal

pub returns : goal.returns
returns c = rw (c.rotate_right-3.ensures, c.rotate_right-2.ensures, c.rotate_right.ensures)
    (rotated_fork c.args.x 6 5 19 (omega arith) (omega arith) (omega arith))
