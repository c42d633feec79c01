use Rattle.rasta_check.proofs.Prelude.{station_of, end_of, other_side}
use Rattle.rasta_check.proofs.Model.NamedPositions.{numbered_once}
use Rattle.rasta_check.proofs.Model.InvariantOfRuns.{all_held, few_made}
use Rattle.rasta_check.proofs.Model.Requests.{in_order}
use Rattle.rasta_check.proofs.laws.asks.Goals as goal

pub returns : goal.returns
returns c p ws w side r within =
    let g = all_held p ws w side r within in
    let once = numbered_once (end_of w side).made (few_made p w within side) g.mine.held.list.numbered in
    in_order (end_of w side) (end_of w (other_side side)) (station_of w side).mark (station_of w (other_side side)).mark g.mine.held g.theirs.held g.mine.values once
