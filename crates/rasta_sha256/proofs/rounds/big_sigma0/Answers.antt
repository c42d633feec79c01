use Rattle.std.proofs.Common.{arith}
use Rattle.rasta_sha256.proofs.Rotations.{rotated_three}
use Rattle.rasta_sha256.proofs.rounds.big_sigma0.Goals as goal

pub returns : goal.returns
returns c = rw (c.rotate_right-3.ensures, c.rotate_right-2.ensures, c.rotate_right.ensures)
    (rotated_three c.args.x 2 11 9 (omega arith) (omega arith))
