use Rattle.std.proofs.Common.{rules}
use Rattle.trials_plain.proofs.world.PlainWorld.crossed.Goals as goal

pub returns : goal.returns
returns c = search rules
