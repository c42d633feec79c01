use Rattle.seatmelon_audit.specs.Ends.{AreEndedBelow}
use Rattle.seatmelon_audit.proofs.lines.end_all.Given as goal

-- the connections up to there took the fault in
abbrev pub invariant-loop-place : goal.invariant-loop-place
invariant-loop-place l = AreEndedBelow l.place l.fn.lines.items l.lines.items l.fault
