use Rattle.std.proofs.Common.{rules}
use Rattle.rasta_end.proofs.end.End.reserve.Goals as goal

pub returns : goal.returns
returns c = search rules

pub returns-in_err-try_reserve_exact : goal.returns-in_err-try_reserve_exact
returns-in_err-try_reserve_exact c = search rules
