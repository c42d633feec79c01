use Rattle.std.proofs.Common.{sym, ◌∙◌, arith}
use Rattle.std.proofs.lemmas.Bool.Decides.{nat_tests}
use Rattle.rasta_check.proofs.Middle.Counts.{reached_at}
use Rattle.rasta_check.proofs.listing.is_reached.Goals as goal

pub returns-in-Some-sight_at-clause-reached : goal.returns-in-Some-sight_at-clause-reached
returns-in-Some-sight_at-clause-reached c t r =
    reached_at c.args.key c.args.count c.in-Some.last c.args.sights.now c.in-Some-sight_at.sight (omega arith) (sym c.sight_at.ensures ∙ c.in-Some-sight_at.is) (grind (arith, nat_tests)) r
