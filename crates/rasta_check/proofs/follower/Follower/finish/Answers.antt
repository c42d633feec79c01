use Rattle.std.proofs.Common.{rules}
use Rattle.rasta_check.proofs.follower.Follower.finish.Goals as goal

pub returns-then-self-from : goal.returns-then-self-from
returns-then-self-from g c = search rules
