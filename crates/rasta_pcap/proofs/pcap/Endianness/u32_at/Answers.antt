use Rattle.std.proofs.lemmas.Grind.{common_steps}
use Rattle.std.proofs.Common.{arith}
use Rattle.rasta_pcap.proofs.pcap.Endianness.u32_at.Goals as goal

pub returns-in-Big : goal.returns-in-Big
returns-in-Big c = grind (arith, common_steps)
