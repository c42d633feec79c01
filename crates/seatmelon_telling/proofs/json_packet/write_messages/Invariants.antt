use denote.Text.{Utf8}
use denote.Shadow.{shadow}
use Rattle.seatmelon_telling.proofs.json_packet.write_messages.Given as goal

-- what stands before a message is text
abbrev pub invariant-loop-message : goal.invariant-loop-message
invariant-loop-message g l =
    (goal.iterator-loop-message g).can_next l.message-iterator ×
    (goal.iterator-loop-message g).is_finite l.message-iterator ×
    shadow (Utf8 l.before)
