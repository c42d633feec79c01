use Rattle.std.proofs.Common.{sym, ◌∙◌}
use Rattle.rasta_check.proofs.Middle.ListSteps.{lag_is}
use Rattle.rasta_check.proofs.listing.lag_from_next.Goals as goal

pub returns : goal.returns
returns c =
    lag_is c.args.sights.now c.args.position c.in_ok-sight.sight c.sight_at-next.result c.args.lag c.lag_at.result c.lag_before.result
    (sym c.sight_at.ensures ∙ c.in_ok-sight.was) c.sight_at-next.ensures c.requires.lag c.lag_at.ensures c.lag_before.ensures
