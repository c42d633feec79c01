use Rattle.std.proofs.Common.{arith}
use Rattle.rasta_sha256.proofs.Lanes.{HoldsWords_at}
use Rattle.rasta_sha256.proofs.schedules.schedules.Goals as goal

pub extend-preserved : goal.extend-preserved
extend-preserved c = HoldsWords_at c.args.group.now _ _ _ (omega arith) (c.extend_by_eight.ensures c.args.group.now c.extend.invariant)
