use Rattle.std.proofs.Common.{◌-◌, length, arith}
use Rattle.rasta_end.proofs.Conveying.{last-at}
use Rattle.trials_plain.proofs.taken.last_of.Goals as goal

pub returns-in_default : goal.returns-in_default
returns-in_default c = last-at c.args.units.now (length c.args.units.now - 1) (omega arith)
