use denote.Text.{Utf8}
use denote.Shadow.{shadow}
use Rattle.seatmelon_tally.proofs.json.write_connections.Given as goal

-- what stands before an answer is text
abbrev pub invariant-loop-name : goal.invariant-loop-name
invariant-loop-name g l =
    (goal.iterator-loop-name g).can_next l.name-iterator ×
    (goal.iterator-loop-name g).is_finite l.name-iterator ×
    shadow (Utf8 l.before)
