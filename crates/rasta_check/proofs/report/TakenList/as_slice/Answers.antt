use Rattle.std.proofs.Common.{rules}
use Rattle.rasta_check.proofs.report.TakenList.as_slice.Goals as goal

pub returns : goal.returns
returns c = search rules
