use Rattle.std.proofs.Common.{◌∙◌, List, ap, arith, map, subst}
use Rattle.std.proofs.lemmas.List.{take_all}
use Rattle.seatmelon_reading.specs.Tapes.{taped_as}
use Rattle.seatmelon_suppose.specs.declared.filling.Listed.{Listed}
use Rattle.seatmelon_account.specs.Hypotheses.{AreListed, AreProved, captured_from}
use Rattle.seatmelon_account.proofs.Suppositions.{told_next}
use Rattle.seatmelon_account.proofs.hypothesis.told.Goals as goal

pub loop-number-preserved : goal.loop-number-preserved
loop-number-preserved c = (
  told_next c.args.params.now (map taped_as c.args.packets.now) c.deref-sent-items.result.now c.loop-number.number _ _ _
      (omega (arith, c.loop-number-test.true)) c.loop-number.invariant.0 c.in_ok-add.ensures.all,
  subst (λ (taken : List Listed). AreProved taken c.loop-number.told.items → AreProved taken c.add.new.told.items) c.deref.ensures.value
      c.in_ok-add.ensures.proved c.loop-number.invariant.1,
  subst (λ (taken : List Listed). AreListed taken c.loop-number.told.items → AreListed taken c.add.new.told.items) c.deref.ensures.value
      c.in_ok-add.ensures.listed c.loop-number.invariant.2,
)

pub returns-clause-all : goal.returns-clause-all
returns-clause-all c =
    let whole = take_all c.loop-number.number c.deref-sent-items.result.now (c.loop-number-test.false) in
    c.loop-number.invariant.0 ∙ ap (captured_from c.args.params.now (map taped_as c.args.packets.now) 0) (whole ∙ c.deref-sent-items.ensures.value)

pub returns-clause-proved : goal.returns-clause-proved
returns-clause-proved c = c.loop-number.invariant.1

pub returns-clause-listed : goal.returns-clause-listed
returns-clause-listed c = c.loop-number.invariant.2
