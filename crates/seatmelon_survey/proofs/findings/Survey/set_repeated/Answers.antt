use Rattle.std.proofs.Common.{ap, subst}
use Rattle.seatmelon_connections.specs.Comparing.{HasSameOpening}
use Rattle.seatmelon_connections.specs.Noted.{first_id_in, request_of, second_id_in}
use Rattle.seatmelon_survey.proofs.Placed.{ArePlaced-set}
use Rattle.seatmelon_survey.proofs.findings.Survey.set_repeated.Goals as goal

pub invariant_of-self-2 : goal.invariant_of-self-2
invariant_of-self-2 c =
    let kept : HasSameOpening c.in-Some.connection.now c.set_repeated.new.self = record {
      first = ap first_id_in c.set_repeated.ensures;
      second = ap second_id_in c.set_repeated.ensures;
      request = ap request_of c.set_repeated.ensures;
    } in
    let same = subst (λ x. HasSameOpening x c.set_repeated.new.self) c.in-Some.ensures.value kept in
    ArePlaced-set _ _ c.args.last c.in-Some.connection.now c.set_repeated.new.self same c.self.invariant
