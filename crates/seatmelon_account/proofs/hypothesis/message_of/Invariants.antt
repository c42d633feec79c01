use Rattle.std.proofs.Common.{◌≡◌, slice_get}
use Rattle.rasta_pdu.specs.Pdu.{messages_in, messages_left, value_of}
use Rattle.seatmelon_account.proofs.hypothesis.message_of.Given as goal

-- the message that is asked for is among those that are left, behind so many
abbrev pub invariant-loop-message : goal.invariant-loop-message
invariant-loop-message l =
    (goal.iterator-loop-message).can_next l.message-iterator
    × (goal.iterator-loop-message).is_finite l.message-iterator
    × (slice_get (messages_left l.message-iterator) l.before ≡ slice_get (messages_in (value_of l.pdu).safety.body) l.index)
