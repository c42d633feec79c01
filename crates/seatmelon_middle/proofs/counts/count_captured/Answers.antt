use Rattle.std.proofs.Common.{◌∙◌, ◌+◌, ◌-◌, ◌^◌, ap, arith, min}
use Rattle.seatmelon_middle.proofs.Counting.{captured_all, captured_more}
use Rattle.seatmelon_middle.proofs.counts.count_captured.Goals as goal

pub loop-unit-preserved : goal.loop-unit-preserved
loop-unit-preserved c =
    c.saturating_add-count.ensures ∙ ap (λ n. min (c.loop-unit.count + n) (2 ^ 64 - 1)) c.from.ensures
    ∙ captured_more c.args.units.now c.loop-unit.unit-index _ c.loop-unit.count c.loop-unit-test.true c.loop-unit.invariant

pub returns : goal.returns
returns c = c.loop-unit.invariant ∙ captured_all c.args.units.now c.loop-unit.unit-index (omega (arith, c.loop-unit-test.false))
