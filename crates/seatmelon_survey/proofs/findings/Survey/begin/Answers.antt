use Rattle.std.proofs.Common.{◌∙◌, Some, ap, cond}
use Rattle.seatmelon_survey.specs.declared.places.Ends.{Ends}
use Rattle.seatmelon_survey.specs.declared.places.Opening.{Opening}
use Rattle.seatmelon_survey.specs.Places.{is_opening, same_ends}
use Rattle.seatmelon_survey.proofs.Placed.{ArePlaced-push, ends_of-begun, ends_of-low-high, opening_of-begun}
use Rattle.seatmelon_survey.proofs.findings.Survey.begin.Goals as goal

pub invariant_of-self-2 : goal.invariant_of-self-2
invariant_of-self-2 c =
    let begun = c.in_ok-connection.ensures in
    let ends = ends_of-low-high c.of.result _ _ c.of.ensures.low c.of.ensures.high
    ∙ ends_of-begun _ c.add.new.self c.args.packet.now begun.first begun.second c.add.ensures.same in
    let opening = c.opening_in.ensures ∙ opening_of-begun _ c.add.new.self c.args.packet.now begun.first begun.second begun.request c.add.ensures.same in
    let place = c.len-place.ensures ∙ c.self.inside.connections.ok.0 in
    let last = λ (e : Ends). c.set.ensures.last e ∙ ap (cond (same_ends c.of.result e) (Some c.len-place.result)) (c.reserve.ensures.last e) in
    let opened = λ (o : Opening). c.set.ensures.opened o ∙ ap (cond (is_opening c.opening_in.result o) (Some c.len-place.result)) (c.reserve.ensures.opened o) in
    rw (c.push_reserved.ensures.items, c.try_reserve.ensures.items) (ArePlaced-push c.self.inside.connections.items c.self.inside.places c.set.new.self c.add.new.self c.of.result c.opening_in.result c.len-place.result place ends opening last opened c.self.invariant)
