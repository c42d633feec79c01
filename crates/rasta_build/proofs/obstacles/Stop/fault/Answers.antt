use Rattle.std.proofs.Common.{rules}
use Rattle.rasta_build.proofs.obstacles.Stop.fault.Goals as goal

pub returns-in-Blocked : goal.returns-in-Blocked
returns-in-Blocked c = search rules
