use Rattle.std.proofs.Common.{arith}
use Rattle.rasta_md4.specs.Md4.{first}
use Rattle.rasta_md4.proofs.Steps.{step_is}
use Rattle.rasta_md4.proofs.rounds.first.Goals as goal

pub returns : goal.returns
returns c =
    step_is c.args.block.now c.args.registers (first c.args.place c.args.shift) c.conditional.result _ _ c.conditional.ensures (omega arith) c.rotate_left.ensures
