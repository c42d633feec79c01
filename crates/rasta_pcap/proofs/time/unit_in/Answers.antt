use Rattle.std.proofs.Common.{rules}
use Rattle.rasta_pcap.proofs.time.unit_in.Goals as goal

pub returns-else-u32_at : goal.returns-else-u32_at
returns-else-u32_at c = search rules

pub returns-then-u32_at : goal.returns-then-u32_at
returns-then-u32_at c = search rules
