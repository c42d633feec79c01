use Rattle.std.proofs.Common.{◌∙◌, ap, sym}
use Rattle.seatmelon_survey.specs.Survey.{connections_in}
use Rattle.seatmelon_survey.proofs.Lasts.{last_for-earlier, last_for-last, last_for-none}
use Rattle.seatmelon_survey.proofs.findings.Survey.last_for.Goals as goal

pub returns-in_err-last-clause-value : goal.returns-in_err-last-clause-value
returns-in_err-last-clause-value c =
    let none = last_for-none c.args.packet.now (connections_in c.args.self.now) (sym c.last_between.ensures.value ∙ c.in_err-last.was) in cc

pub returns-then-can_have-clause-value : goal.returns-then-can_have-clause-value
returns-then-can_have-clause-value c =
    sym (last_for-last c.args.packet.now (connections_in c.args.self.now) (connections_in c.last_between.new.self) c.in_ok-last.last (ap connections_in c.last_between.ensures.unchanged) (sym c.last_between.ensures.value ∙ c.in_ok-last.was) (sym c.can_have.ensures ∙ c.if-can_have.true))

pub returns-clause-value : goal.returns-clause-value
returns-clause-value c =
    c.last_before.ensures ∙ sym (last_for-earlier c.args.packet.now (connections_in c.args.self.now) (connections_in c.last_between.new.self) c.in_ok-last.last (ap connections_in c.last_between.ensures.unchanged) (sym c.last_between.ensures.value ∙ c.in_ok-last.was) (sym c.can_have.ensures ∙ c.if-can_have.false))
