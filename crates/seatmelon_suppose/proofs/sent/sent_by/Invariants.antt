use Rattle.std.proofs.Common.{◌≡◌, ◌++◌, drop}
use Rattle.seatmelon_suppose.specs.Sent.{sent_messages}
use Rattle.seatmelon_suppose.proofs.sent.sent_by.Given as goal

-- the messages so far, and those of the first copies that are left
abbrev pub invariant-loop-position : goal.invariant-loop-position
invariant-loop-position l =
    l.sent.items ++ sent_messages l.judged.origins.items (drop l.position l.list) ≡ sent_messages l.judged.origins.items l.list
