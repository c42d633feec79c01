use Rattle.std.proofs.Common.{◌∙◌, ap}
use Rattle.seatmelon_survey.specs.Belonging.{last_between}
use Rattle.seatmelon_survey.proofs.Placed.{ends_of-low-high}
use Rattle.seatmelon_survey.proofs.findings.Survey.last_between.Goals as goal

pub returns-clause-value : goal.returns-clause-value
returns-clause-value c =
    let ends = ends_of-low-high c.of.result _ _ c.of.ensures.low c.of.ensures.high in
    let found = c.find.ensures.value ∙ c.self.invariant.last c.of.result ∙ ap (λ e. last_between e c.self.inside.connections.items) ends in
    rw (← c.self.view_is) found
