use Rattle.std.proofs.Common.{◌≡◌, ◌++◌, drop, length, map}
use Rattle.rasta_check.proofs.Prelude.{messages_taken, listed_of, numbered_from, proved_units}
use Rattle.rasta_check.proofs.surely_taken.messages_with.Given as goal

-- the messages so far, and those of the first copies that are left
abbrev pub invariant-loop-position : goal.invariant-loop-position
invariant-loop-position g l =
    map listed_of l.items.items ++ numbered_from (length l.items.items) (messages_taken (proved_units l.proofs l.unit (drop l.position (g.S.SentList.content l.own))))
    ≡ numbered_from 0 (messages_taken (proved_units l.proofs 0 (g.S.SentList.content l.own)))
