use Rattle.std.proofs.Common.{refl, subst}
use Rattle.rasta_verdict.specs.Judged.{IsChecked}
use Rattle.rasta_verdict.proofs.verdict.verdict_by.Goals as goal

pub returns-in-Ok-clause-judged : goal.returns-in-Ok-clause-judged
returns-in-Ok-clause-judged c =
    let said = subst (IsChecked c.args.store.now c.args.certificate) c.in-Ok.is c.requires in
    (refl, refl, said.1, said.2, said.3)

pub returns-in-Ok-clause-told : goal.returns-in-Ok-clause-told
returns-in-Ok-clause-told c =
    let said = subst (IsChecked c.args.store.now c.args.certificate) c.in-Ok.is c.requires in
    said.0
