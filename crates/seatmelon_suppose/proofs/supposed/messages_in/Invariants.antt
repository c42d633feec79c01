use Rattle.std.proofs.Common.{◌≡◌, ◌++◌}
use Rattle.rasta_pdu.specs.Parts.{lists_of}
use Rattle.rasta_pdu.specs.Pdu.{messages_in, messages_left, value_of}
use Rattle.seatmelon_suppose.proofs.supposed.messages_in.Given as goal

-- the messages so far, and those that are left
abbrev pub invariant-loop-message : goal.invariant-loop-message
invariant-loop-message l =
    (goal.iterator-loop-message).can_next l.message-iterator
    × (goal.iterator-loop-message).is_finite l.message-iterator
    × (lists_of l.messages.items ++ messages_left l.message-iterator ≡ messages_in (value_of l.fn.pdu).safety.body)
