use Rattle.std.proofs.Common.{arith}
use Rattle.rasta_end.proofs.Owing.{length-owed, one-reply, one-request}
use Rattle.rasta_end.proofs.owed.Owes.are_few.Goals as goal

pub returns : goal.returns
returns c = (let l = length-owed c.args.self in let m = one-reply c.args.self.reply in let n = one-request c.args.self.request in omega (arith, l, m, n))
