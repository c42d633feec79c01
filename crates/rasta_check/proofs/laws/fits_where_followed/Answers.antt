use Rattle.std.proofs.Common.{length}
use Rattle.rasta_check.proofs.Prelude.{other_side}
use Rattle.rasta_check.proofs.Capture.FaultlessLists.{ordered}
use Rattle.rasta_check.proofs.Capture.ListForms.{to_record}
use Rattle.rasta_check.proofs.Script.Fits.{fits_follows, follows_fits}
use Rattle.rasta_check.proofs.laws.fits_where_followed.Goals as goal

pub returns : goal.returns
returns c p h packets side own peer es e mine theirs few = (
  λ f. fits_follows p (length packets) own peer side es e f,
  λ f. follows_fits p (length packets) own peer (ordered (to_record p packets side own h.valid mine)) (ordered (to_record p packets (other_side side) peer h.valid theirs)) few side es e f,
)
