use Rattle.std.proofs.Common.{arith}
use Rattle.rasta_sha256.proofs.Blocks.{rounds_at}
use Rattle.rasta_sha256.proofs.rounds.eight_rounds.Goals as goal

pub returns : goal.returns
returns c = λ group hash held before.
    let r1 = c.round_at-variables.ensures group hash held before in
    let r2 = c.round_at-variables-2.ensures group hash held r1 in
    let r3 = c.round_at-variables-3.ensures group hash held (rounds_at hash _ _ _ _ (omega arith) r2) in
    let r4 = c.round_at-variables-4.ensures group hash held (rounds_at hash _ _ _ _ (omega arith) r3) in
    let r5 = c.round_at-variables-5.ensures group hash held (rounds_at hash _ _ _ _ (omega arith) r4) in
    let r6 = c.round_at-variables-6.ensures group hash held (rounds_at hash _ _ _ _ (omega arith) r5) in
    let r7 = c.round_at-variables-7.ensures group hash held (rounds_at hash _ _ _ _ (omega arith) r6) in
    let r8 = c.round_at.ensures group hash held (rounds_at hash _ _ _ _ (omega arith) r7) in
    rounds_at hash _ _ _ _ (omega arith) r8
