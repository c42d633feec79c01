use Rattle.std.proofs.Common.{◌∙◌}
use Rattle.rasta_check.proofs.Middle.ListSteps.{count_data}
use Rattle.rasta_check.proofs.listing.Conveyance.data_up_to.Goals as goal

pub returns : goal.returns
returns c r =
    count_data c.args.self.now.sights.now c.deref.result.now c.args.key c.count_up_to.result (c.deref.ensures.value ∙ c.args.self.now.data_is) c.count_up_to.ensures.value r
