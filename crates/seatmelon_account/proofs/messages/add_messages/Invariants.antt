use Rattle.std.proofs.Common.{◌≡◌, ◌++◌, map}
use Rattle.rasta_pdu.specs.Pdu.{messages_in, messages_left, value_of}
use Rattle.rasta_check.specs.Verdict.Listed.{listed_of}
use Rattle.seatmelon_account.specs.Messages.{ProvedBy, placed_at, placed_of}
use Rattle.seatmelon_account.proofs.messages.add_messages.Given as goal

-- the messages so far, and those that are left
abbrev pub invariant-loop-bytes : goal.invariant-loop-bytes
invariant-loop-bytes l =
    (goal.iterator-loop-bytes).can_next l.bytes-iterator
    × (goal.iterator-loop-bytes).is_finite l.bytes-iterator
    × (map placed_of l.messages.items ++ map (placed_at l.place) (messages_left l.bytes-iterator)
    ≡ map placed_of l.fn.messages.items ++ map (placed_at l.place) (messages_in (value_of l.fn.pdu).safety.body))
    × (ProvedBy (map listed_of l.listed) l.fn.messages.items → ProvedBy (map listed_of l.listed) l.messages.items)
