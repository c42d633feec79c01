use denote.Text.{Utf8}
use denote.Shadow.{shadow}
use Rattle.seatmelon_tally.proofs.json_inputs.write_parameters.Given as goal

-- what stands before a file is text
abbrev pub invariant-loop-name : goal.invariant-loop-name
invariant-loop-name g l =
    (goal.iterator-loop-name g).can_next l.name-iterator ×
    (goal.iterator-loop-name g).is_finite l.name-iterator ×
    shadow (Utf8 l.before)
