use Rattle.std.proofs.Common.{arith}
use Rattle.rasta_sha256.proofs.Padding.{length-padding}
use Rattle.rasta_sha256.proofs.tail_blocks.Goals as goal

pub returns-clause-len : goal.returns-clause-len
returns-clause-len c = omega (arith, length-padding c.args.used)
