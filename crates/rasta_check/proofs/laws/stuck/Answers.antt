use Rattle.std.proofs.Common.{length, ◌++◌, ◌∷◌}
use Rattle.rasta_check.proofs.Prelude.{other_side}
use Rattle.rasta_check.proofs.Script.Fits.{fits_follows}
use Rattle.rasta_check.proofs.Capture.ListForms.{to_record}
use Rattle.rasta_check.proofs.Script.OneWay.{stuck, leads_once}
use Rattle.rasta_check.proofs.laws.stuck.Goals as goal

pub returns : goal.returns
returns z p h packets side own peer sent few =
    let theirs = to_record p packets (other_side side) peer h.valid sent in record {
      one = λ u v w es f g. leads_once p (length packets) packets (other_side side) own peer theirs few u v w es f g;
      none = λ es rest x v e f n g.
          let w = fits_follows p (length packets) own peer side (es ++ x ∷ rest) e g in
          stuck p (length packets) packets (other_side side) own peer theirs few _ v w.0 es rest x f n w.1;
    }
