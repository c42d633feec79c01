use Rattle.std.proofs.Common.{rules}
use Rattle.rasta_pcap.proofs.devices.FailAt.count_call.Goals as goal

pub returns-else-is_now-clause-now : goal.returns-else-is_now-clause-now
returns-else-is_now-clause-now g c = search rules

pub returns-then-is_now-clause-later : goal.returns-then-is_now-clause-later
returns-then-is_now-clause-later g c = search rules
