use Rattle.seatmelon_many.specs.Judged.{AreOf}
use Rattle.seatmelon_many.proofs.judging.judge.Given as goal

-- the files so far are judged
abbrev pub invariant-loop-place : goal.invariant-loop-place
invariant-loop-place g l = AreOf l.place l.judged
