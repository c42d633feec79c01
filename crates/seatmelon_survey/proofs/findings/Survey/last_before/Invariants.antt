use Rattle.std.proofs.Common.{◌≡◌, take}
use Rattle.seatmelon_survey.specs.Belonging.{last_for}
use Rattle.seatmelon_survey.specs.Survey.{connections_in}
use Rattle.seatmelon_survey.proofs.findings.Survey.last_before.Given as goal

abbrev pub decreases-loop-place : goal.decreases-loop-place
decreases-loop-place l = l.place

-- no connection from this place on, before the end, can have the packet
abbrev pub invariant-loop-place : goal.invariant-loop-place
invariant-loop-place l = last_for l.fn.packet (take l.place (connections_in l.fn.self)) ≡ last_for l.fn.packet (take l.fn.end (connections_in l.fn.self))
