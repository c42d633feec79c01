use Rattle.seatmelon_many.proofs.judging.judge.Goals as goal

pub loop-place-preserved : goal.loop-place-preserved
loop-place-preserved g c = c.in_ok-judged.ensures c.loop-place.place c.loop-place.invariant
