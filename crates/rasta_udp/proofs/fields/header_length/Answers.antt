use Rattle.std.proofs.lemmas.Grind.{common_steps}
use Rattle.std.proofs.Common.{arith}
use Rattle.rasta_udp.proofs.fields.header_length.Goals as goal

pub returns : goal.returns
returns c = grind (arith, common_steps)
