use Rattle.rasta_check.proofs.Middle.ListSteps.{conveyed_some, conveyed_none}
use Rattle.rasta_check.proofs.listing.Conveyance.conveyed_through.Goals as goal

pub returns-in-Some : goal.returns-in-Some
returns-in-Some c r =
    conveyed_some c.args.self.now.sights.now c.args.key c.data_up_to.result c.in-Some.lag c.saturating_sub.result (c.data_up_to.ensures r) (c.in-Some.ensures r) c.saturating_sub.ensures

pub returns-in-None : goal.returns-in-None
returns-in-None c r = conveyed_none c.args.self.now.sights.now c.args.key (c.in-None.ensures r)
