use Rattle.std.proofs.Common.{◌∙◌, ap}
use Rattle.rasta_check.specs.Internals.Conveyed.{is_settled_by}
use Rattle.rasta_check.proofs.Middle.ListSteps.{through_settled, through_ahead}
use Rattle.rasta_check.proofs.listing.Conveyance.lag_through.Goals as goal

pub returns-then-is_settled_by : goal.returns-then-is_settled_by
returns-then-is_settled_by c r =
    through_settled c.args.self.now.sights.now c.args.key c.count_up_to-count.result (c.count_up_to-count.ensures.value r)
    (c.if-is_settled_by.ensures ∙ ap (is_settled_by c.args.key) c.last_before.ensures)

pub returns-else-is_settled_by : goal.returns-else-is_settled_by
returns-else-is_settled_by c r =
    through_ahead c.args.self.now.sights.now c.args.key c.count_up_to-count.result c.sight_at.result c.lag_before_sight.result c.lag_ahead.result
    (c.count_up_to-count.ensures.value r) (c.if-is_settled_by.ensures ∙ ap (is_settled_by c.args.key) c.last_before.ensures)
    c.sight_at.ensures c.lag_before_sight.ensures c.lag_ahead.ensures
