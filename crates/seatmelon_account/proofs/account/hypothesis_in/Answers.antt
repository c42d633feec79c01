use Rattle.std.proofs.Common.{Option, subst}
use Rattle.std.specs.Prelude.{IfSome}
use Rattle.seatmelon_suppose.specs.declared.supposition.Supposition.{Supposition}
use Rattle.seatmelon_account.specs.Hypotheses.{IsSupposed}
use Rattle.seatmelon_account.proofs.account.hypothesis_in.Goals as goal

pub returns-in_ok-hypothesis_of-in-Some-clause-hypothesis : goal.returns-in_ok-hypothesis_of-in-Some-clause-hypothesis
returns-in_ok-hypothesis_of-in-Some-clause-hypothesis c = λ most supposed.
    c.in_ok-hypothesis_of-in-Some.ensures.hypothesis most
    (subst (λ (o : Option Supposition). IfSome o (IsSupposed c.args.params.now c.args.reading.now.notes.tape most)) c.in-Some.is supposed)
