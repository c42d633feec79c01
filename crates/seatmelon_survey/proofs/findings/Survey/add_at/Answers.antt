use Rattle.std.proofs.Common.{subst}
use Rattle.seatmelon_connections.specs.Comparing.{HasSameOpening}
use Rattle.seatmelon_survey.proofs.Placed.{ArePlaced-set}
use Rattle.seatmelon_survey.proofs.findings.Survey.add_at.Goals as goal

pub invariant_of-self-2 : goal.invariant_of-self-2
invariant_of-self-2 c =
    let same = subst (λ x. HasSameOpening x c.add.new.self) c.in-Some.ensures.value c.add.ensures.same in
    ArePlaced-set _ _ c.args.place c.in-Some.connection.now c.add.new.self same c.self.invariant
