use Rattle.rasta_check.proofs.Prelude.{end_of}
use Rattle.rasta_check.proofs.Model.Settled.{settled_at}
use Rattle.rasta_check.proofs.Model.InvariantOfRuns.{all_held}
use Rattle.rasta_check.proofs.laws.settled_units.Goals as goal

pub returns : goal.returns
returns z p ws w side r within c k s =
    let mine = (all_held p ws w side r within).mine in
    settled_at (end_of w side) mine.values mine.settled c k s
