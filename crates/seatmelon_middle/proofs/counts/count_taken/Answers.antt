use Rattle.std.proofs.Common.{◌∙◌, ◌+◌, ◌-◌, ◌^◌, ap, arith, min, sym}
use Rattle.seatmelon_middle.proofs.Counting.{taken_all, taken_more, taken_same}
use Rattle.seatmelon_middle.proofs.counts.count_taken.Goals as goal
use Rattle.seatmelon_middle.proofs.counts.count_taken.Goals.{else-is_some, then-is_some}

pub loop-unit-preserved : goal.loop-unit-preserved
loop-unit-preserved c =
    let units = c.args.units.now in
    let index = c.loop-unit.unit-index in
    let count = c.loop-unit.count in
    let inside = c.loop-unit-test.true in
    elim c.if-is_some.branch [
      | then-is_some w ↦
          rw w.count-is (w.saturating_add-count.ensures ∙ ap (λ n. min (count + n) (2 ^ 64 - 1)) w.from.ensures
          ∙ taken_more units index _ count inside (sym c.is_some.ensures ∙ w.if-is_some.true) c.loop-unit.invariant)
      | else-is_some w ↦ rw w.count-is (taken_same units index _ count inside (sym c.is_some.ensures ∙ w.if-is_some.false) c.loop-unit.invariant)
    ]

pub returns : goal.returns
returns c = c.loop-unit.invariant ∙ taken_all c.args.units.now c.loop-unit.unit-index (omega (arith, c.loop-unit-test.false))
