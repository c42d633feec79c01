use Rattle.rasta_check.proofs.Prelude.{end_of, other_side}
use Rattle.rasta_check.proofs.Model.HandedUnits.{hands_up}
use Rattle.rasta_check.proofs.Model.InvariantOfRuns.{all_held}
use Rattle.rasta_check.proofs.laws.handed.Goals as goal

pub returns : goal.returns
returns c p ws w side r within = hands_up (end_of w side) (end_of w (other_side side)) (all_held p ws w side r within).mine.handed
