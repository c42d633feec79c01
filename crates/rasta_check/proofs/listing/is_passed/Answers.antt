use Rattle.std.proofs.Common.{sym, ◌∙◌, arith}
use Rattle.std.proofs.lemmas.Bool.Decides.{nat_tests}
use Rattle.rasta_check.proofs.Middle.Counts.{passed_at, passed_end}
use Rattle.rasta_check.proofs.listing.is_passed.Goals as goal

pub returns-in-Some : goal.returns-in-Some
returns-in-Some c t = passed_at c.args.key c.args.count c.args.sights.now c.in-Some.next (sym c.sight_at.ensures ∙ c.in-Some.is) (grind (arith, nat_tests))

pub returns-in-None : goal.returns-in-None
returns-in-None c t = passed_end c.args.key c.args.count c.args.sights.now (sym c.sight_at.ensures ∙ c.in-None.is)
