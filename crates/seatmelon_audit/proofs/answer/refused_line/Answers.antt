use Rattle.std.proofs.Common.{subst}
use Rattle.rasta_check.specs.Capture.Building.{crossed_in}
use Rattle.rasta_check.specs.Capture.Crossing.{Crossing}
use Rattle.seatmelon_audit.specs.Answers.{IsBefore}
use Rattle.seatmelon_audit.proofs.Answering.{told_on}
use Rattle.seatmelon_audit.proofs.answer.refused_line.Goals as goal

pub returns-in-Ok : goal.returns-in-Ok
returns-in-Ok c packets seen opens =
    told_on c.args.refusal (crossed_in c.args.line.now.builder) c.args.line.now.params packets c.in-Ok.before c.refused.result
    (subst (λ (k : Crossing). IsBefore k c.in-Ok.before) c.store.ensures c.in-Ok.ensures) (c.refused.ensures packets seen opens)
