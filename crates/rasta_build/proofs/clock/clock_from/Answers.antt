use Rattle.std.proofs.Common.{rules}
use Rattle.rasta_build.proofs.clock.clock_from.Goals as goal

pub returns : goal.returns
returns c = search rules
