use Rattle.std.proofs.Common.{◌≡◌, ◌++◌, drop, map}
use Rattle.rasta_check.specs.Verdict.Listed.{listed_of}
use Rattle.seatmelon_account.specs.Messages.{ProvedBy, messages_sent, placed_of}
use Rattle.seatmelon_account.proofs.messages.messages_of.Given as goal

-- the messages so far, and those of the first copies that are left
abbrev pub invariant-loop-position : goal.invariant-loop-position
invariant-loop-position l =
    (map placed_of l.messages.items ++ messages_sent (drop l.position l.list) ≡ messages_sent l.list)
    × ProvedBy (map listed_of l.listed) l.messages.items
