use Rattle.std.proofs.Common.{◌∙◌}
use Rattle.rasta_check.proofs.Middle.ResentSteps.{standing_none, standing_some}
use Rattle.rasta_check.proofs.resent.Standing.at.Goals as goal

pub returns-in_err-lag : goal.returns-in_err-lag
returns-in_err-lag c r = c.from_residual.ensures ∙ standing_none c.args.conveyance.now.sights.now c.args.key (c.in_err-lag.ensures r)

pub returns : goal.returns
returns c r =
    standing_some c.args.conveyance.now.sights.now c.args.key c.data_up_to.result c.in_ok-lag.lag (c.data_up_to.ensures r) (c.in_ok-lag.ensures r)
