use Rattle.std.proofs.Common.{arith}
use Rattle.rasta_md4.specs.Md4.{second}
use Rattle.rasta_md4.proofs.Steps.{step_is}
use Rattle.rasta_md4.proofs.rounds.second.Goals as goal

pub returns : goal.returns
returns c =
    step_is c.args.block.now c.args.registers (second c.args.place c.args.shift) c.majority.result _ _ c.majority.ensures (omega arith) c.rotate_left.ensures
