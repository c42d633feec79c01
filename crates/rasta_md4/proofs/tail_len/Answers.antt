use Rattle.std.proofs.Common.{arith}
use Rattle.rasta_md4.proofs.Padding.{length-padding}
use Rattle.rasta_md4.proofs.tail_len.Goals as goal

pub returns-then-used-clause-len : goal.returns-then-used-clause-len
returns-then-used-clause-len c = omega (arith, length-padding c.args.used)

pub returns-else-used-clause-len : goal.returns-else-used-clause-len
returns-else-used-clause-len c = omega (arith, length-padding c.args.used)
