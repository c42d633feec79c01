use Rattle.std.proofs.Common.{◌≡◌, ◌∙◌, ◌-◌, arith, suc, sym}
use Rattle.seatmelon_survey.proofs.Lasts.{last_for-before, last_for-here}
use Rattle.seatmelon_survey.proofs.findings.Survey.last_before.Goals as goal

pub returns-then-can_have : goal.returns-then-can_have
returns-then-can_have c =
    let at : suc (c.loop-place.place - 1) ≡ c.loop-place.place = omega arith in
    sym (last_for-here c.args.packet.now _ _ _ at (sym c.can_have.ensures ∙ c.if-can_have.true)) ∙ c.loop-place.invariant

pub loop-place-preserved : goal.loop-place-preserved
loop-place-preserved c =
    let at : suc (c.loop-place.place - 1) ≡ c.loop-place.place = omega arith in
    sym (last_for-before c.args.packet.now _ _ _ at (sym c.can_have.ensures ∙ c.if-can_have.false)) ∙ c.loop-place.invariant
