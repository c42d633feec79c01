use Rattle.std.proofs.Common.{rules}
use Rattle.rasta_check.proofs.follower.Follower.fault.Goals as goal

pub returns : goal.returns
returns c = search rules
