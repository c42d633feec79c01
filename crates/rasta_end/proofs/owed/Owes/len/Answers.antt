use Rattle.std.proofs.Common.{arith}
use Rattle.rasta_end.proofs.Owing.{length-owed}
use Rattle.rasta_end.proofs.owed.Owes.len.Goals as goal

pub returns-clause-value : goal.returns-clause-value
returns-clause-value c = (let l = length-owed c.args.self in omega (arith, l, c.replies.ensures.value, c.requests.ensures.value))
