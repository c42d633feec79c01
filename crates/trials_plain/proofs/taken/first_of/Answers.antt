use Rattle.trials_plain.proofs.Plainly.{copies-first}
use Rattle.trials_plain.proofs.taken.first_of.Goals as goal

pub returns : goal.returns
returns c = copies-first c.args.copies.now c.args.count c.min.result c.min.ensures
