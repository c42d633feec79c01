use Rattle.std.proofs.Common.{rules}
use Rattle.rasta_pdu.proofs.quiet_point.Quiet.is_valid.Goals as goal

pub returns-then-is_valid : goal.returns-then-is_valid
returns-then-is_valid c = search rules
