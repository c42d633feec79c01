use Rattle.std.proofs.Common.{◌∙◌, sym, subst, ℕ, Option}
use Rattle.seatmelon_account.specs.Outcomes.{IsToldIf}
use Rattle.seatmelon_commands.proofs.explanation.tell.Goals as goal

pub returns-clause-told : goal.returns-clause-told
returns-clause-told g c =
    subst (λ (missing : Option ℕ). IsToldIf missing c.args.inputs.now c.args.reading.now c.outcome.result)
    (sym c.in_default.is ∙ c.missing_record.ensures)
    (c.in_ok-account.account, c.in_ok-account.ensures.account, c.in_ok-account.ensures.told ∙ c.in_ok-supposition.ensures.asked, c.outcome.ensures)
