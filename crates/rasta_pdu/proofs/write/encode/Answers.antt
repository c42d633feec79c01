use Rattle.std.proofs.Common.{arith}
use Rattle.rasta_pdu.proofs.Writing.{are_spelled}
use Rattle.rasta_pdu.proofs.write.encode.Goals as goal

pub returns-clause-spelled : goal.returns-clause-spelled
returns-clause-spelled c =
    are_spelled c.args.params.now c.args.parts.now c.requires c.in-Some.ensures.numbers (omega (arith, c.in-Some.ensures.len))
