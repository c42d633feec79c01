use Rattle.std.proofs.Common.{◌≡◌, ◌+◌, drop}
use Rattle.rasta_check.proofs.Prelude.{follow, follow_from}
use Rattle.rasta_check.proofs.follower.follow.Given as goal

-- what is left of the script leads where the whole script leads
abbrev pub invariant-loop-entry : goal.invariant-loop-entry
invariant-loop-entry g l = record {
  params : l.follower.params ≡ l.fn.params;
  side : l.follower.side ≡ l.fn.side;
  entry : l.follower.entry ≡ l.entry-index + 1;
  rest : follow_from l.fn.params l.fn.side l.fn.packets (g.S.SentList.content l.fn.own) (g.S.SentList.content l.fn.peer) l.follower.entry l.follower.cursor (drop l.entry-index l.script)
      ≡ follow l.fn.params l.fn.side l.fn.packets (g.S.SentList.content l.fn.own) (g.S.SentList.content l.fn.peer) l.script;
}
