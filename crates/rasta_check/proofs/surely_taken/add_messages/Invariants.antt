use Rattle.std.proofs.Common.{◌≡◌, ◌++◌, length, map}
use Rattle.rasta_check.proofs.Prelude.{value_of, messages_in, messages_of_unit, listed_of, numbered_from}
use Rattle.rasta_pdu.specs.Pdu.{messages_left}
use Rattle.rasta_check.proofs.surely_taken.add_messages.Given as goal

-- the messages so far, and those that are left
abbrev pub invariant-loop-bytes : goal.invariant-loop-bytes
invariant-loop-bytes l =
    (goal.iterator-loop-bytes).can_next l.bytes-iterator
    × (goal.iterator-loop-bytes).is_finite l.bytes-iterator
    × (map listed_of l.items.items ++ numbered_from (length l.items.items) (messages_of_unit (record { messages = messages_left l.bytes-iterator; data_place = l.data_index; proof_place = l.proof_index }))
    ≡ map listed_of l.fn.items.items ++ numbered_from (length l.fn.items.items) (messages_of_unit (record { messages = messages_in (value_of l.fn.pdu).safety.body; data_place = l.data_index; proof_place = l.proof_index })))
