use Rattle.std.proofs.Common.{arith}
use Rattle.std.proofs.lemmas.List.{drop_all}
use Rattle.rasta_line.proofs.line.Line.clear.Goals as goal

pub returns : goal.returns
returns c = drop_all 200 c.self.inside.room (omega (arith, c.self.invariant.0))
