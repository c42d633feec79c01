use Rattle.std.proofs.Common.{◌≡◌, ◌+◌, length}
use Rattle.rasta_pdu.specs.Pdu.{messages_in, messages_left, value_of}
use Rattle.rasta_check.proofs.seen.message_count.Given as goal

-- the messages so far, and those that are left
abbrev pub invariant-loop : goal.invariant-loop
invariant-loop l =
    (goal.iterator-loop).can_next l.iterator'
    × (goal.iterator-loop).is_finite l.iterator'
    × (l.count + length (messages_left l.iterator') ≡ length (messages_in (value_of l.fn.pdu).safety.body))
