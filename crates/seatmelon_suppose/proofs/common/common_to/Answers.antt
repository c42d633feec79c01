use Rattle.std.proofs.Common.{List, ◌∷◌, ◌++◌, ◌∙◌, [], take, ap, arith, subst, sym}
use Rattle.std.proofs.lemmas.List.{take_all, take_more}
use Rattle.seatmelon_suppose.specs.Common.{IsCommon, IsInBoth, listed_by}
use Rattle.seatmelon_suppose.specs.declared.filling.Filling.{Filling}
use Rattle.seatmelon_suppose.specs.declared.filling.Listed.{Listed}
use Rattle.seatmelon_suppose.proofs.Agreement.{common-more, common-one}
use Rattle.seatmelon_suppose.proofs.common.common_to.Goals as goal

pub loop-filling-init : goal.loop-filling-init
loop-filling-init c =
    let told = c.in_ok-told.told.items in
    common-one c.args.sender c.args.first.now told (subst (λ (l : List Listed). IsInBoth l l told) c.listed_by-listed.ensures c.in_ok-told.ensures)

pub loop-filling-preserved : goal.loop-filling-preserved
loop-filling-preserved c =
    let first = c.args.first.now in
    let others = c.args.others.now in
    let sender = c.args.sender in
    let i = c.loop-filling.filling-index in
    let filling = c.filling-item.result in
    let new = c.in_ok-told-2.told.items in
    let both : IsInBoth c.loop-filling.told.items (listed_by sender filling) new =
    subst (λ (l : List Listed). IsInBoth l (listed_by sender filling) new) c.deref.ensures.value
    (subst (λ (l : List Listed). IsInBoth c.deref.result.now l new) c.listed_by.ensures c.in_ok-told-2.ensures) in
    subst (λ (l : List Filling). IsCommon sender (first ∷ l) new)
    (sym (take_more others i filling (omega (arith, c.loop-filling-test.true)) ∙ ap (λ (f : Filling). take i others ++ f ∷ []) (sym c.filling-item.is)))
    (common-more sender first filling (take i others) c.loop-filling.told.items new c.loop-filling.invariant both)

pub returns : goal.returns
returns c =
    subst (λ (others : List Filling). IsCommon c.args.sender (c.args.first.now ∷ others) c.loop-filling.told.items)
    (take_all c.loop-filling.filling-index c.args.others.now (omega (arith, c.loop-filling-test.false))) c.loop-filling.invariant
