use Rattle.std.proofs.Common.{◌≡◌, ◌++◌, ◌-◌, ◌≤◌, length}
use Rattle.rasta_pdu.specs.Pdu.{messages_in, messages_left, value_of}
use Rattle.seatmelon_suppose.specs.Sent.{messages_from}
use Rattle.seatmelon_suppose.proofs.sent.add_messages.Given as goal

-- the messages so far, and those that are left
abbrev pub invariant-loop-message : goal.invariant-loop-message
invariant-loop-message l = record {
  can_next : (goal.iterator-loop-message).can_next l._message-iterator;
  finite : (goal.iterator-loop-message).is_finite l._message-iterator;
  within : l.before ≤ length l.sent.items;
  all : l.sent.items ++ messages_from l.origin (length l.sent.items - l.before) (messages_left l._message-iterator)
      ≡ l.fn.sent.items ++ messages_from l.origin 0 (messages_in (value_of l.fn.pdu).safety.body);
}
