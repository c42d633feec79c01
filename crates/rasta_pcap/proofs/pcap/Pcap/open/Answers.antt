use Rattle.std.proofs.Common.{arith, rules}
use Rattle.std.proofs.lemmas.Grind.{common_steps}
use Rattle.rasta_pcap.proofs.pcap.Pcap.open.Goals as goal

pub returns : goal.returns
returns c = grind (arith, common_steps) steps 8000000

pub returns-then-u32_at-ne1 : goal.returns-then-u32_at-ne1
returns-then-u32_at-ne1 c = search rules
