use Rattle.std.proofs.Common.{arith}
use Rattle.rasta_md4.specs.Md4.{third}
use Rattle.rasta_md4.proofs.Steps.{step_is}
use Rattle.rasta_md4.proofs.rounds.third.Goals as goal

pub returns : goal.returns
returns c =
    step_is c.args.block.now c.args.registers (third c.args.place c.args.shift) c.parity.result _ _ c.parity.ensures (omega arith) c.rotate_left.ensures
