use Rattle.std.proofs.Common.{◌≡◌, ◌++◌, map}
use Rattle.rasta_pdu.specs.Pdu.{messages_in, messages_left, value_of}
use Rattle.seatmelon_account.specs.Middle.{AreNumbered, told_of, told_with}
use Rattle.seatmelon_account.proofs.middle.add_messages.Given as goal

-- the messages so far, and those that are left
abbrev pub invariant-loop-bytes : goal.invariant-loop-bytes
invariant-loop-bytes l =
    (goal.iterator-loop-bytes).can_next l.bytes-iterator
    × (goal.iterator-loop-bytes).is_finite l.bytes-iterator
    × (map told_of l.messages.items ++ map (told_with l.places.«data» l.places.proof) (messages_left l.bytes-iterator)
    ≡ map told_of l.fn.messages.items ++ map (told_with l.places.«data» l.places.proof) (messages_in (value_of l.fn.pdu).safety.body))
    × (AreNumbered l.fn.messages.items → AreNumbered l.messages.items)
