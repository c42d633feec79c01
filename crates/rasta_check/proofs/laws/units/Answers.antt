use Rattle.rasta_check.proofs.Prelude.{last_of, end_of}
use Rattle.rasta_check.proofs.Model.ConveyedUnits.{values, jump}
use Rattle.rasta_check.proofs.Model.OfferedUnits.{bare_rest}
use Rattle.rasta_check.proofs.Model.InvariantOfRuns.{all_held}
use Rattle.rasta_check.proofs.laws.units.Goals as goal

pub returns : goal.returns
returns c p ws w side r within ended owed =
    let e = end_of w side in
    bare_rest (jump e) (last_of (values e)) e.offered e.owed owed ((all_held p ws w side r within).mine.values.due ended)
