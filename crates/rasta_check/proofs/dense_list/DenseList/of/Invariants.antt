use Rattle.std.proofs.Common.{◌≡◌, take}
use Rattle.rasta_check.proofs.dense_list.DenseList.of.Given as goal

-- the members so far were added
abbrev pub invariant-loop-position : goal.invariant-loop-position
invariant-loop-position g l = l.dense ≡ take l.position (g.S.SentList.content l.list)
