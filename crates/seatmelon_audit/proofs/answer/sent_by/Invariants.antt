use Rattle.std.proofs.Common.{◌≡◌, ◌+◌, drop, length, take}
use Rattle.seatmelon_middle.specs.Course.{first_disconnection}
use Rattle.seatmelon_audit.specs.Messages.{messages_sent}
use Rattle.seatmelon_audit.proofs.answer.sent_by.Given as goal

-- the messages so far, and those of the first copies that are left; the first disconnection request so far
abbrev pub invariant-loop-position : goal.invariant-loop-position
invariant-loop-position l =
    (l.messages + length (messages_sent (drop l.position l.list)) ≡ length (messages_sent l.list))
    × (l.disconnection ≡ first_disconnection l.side (take l.position l.list))
