use Rattle.rasta_check.proofs.Prelude.{end_of}
use Rattle.rasta_check.proofs.Model.NamedPositions.{numbered_once}
use Rattle.rasta_check.proofs.Model.InvariantOfRuns.{all_held, few_made}
use Rattle.rasta_check.proofs.laws.sn_once.Goals as goal

pub returns : goal.returns
returns c p ws w side r within = numbered_once (end_of w side).made (few_made p w within side) (all_held p ws w side r within).mine.held.list.numbered
