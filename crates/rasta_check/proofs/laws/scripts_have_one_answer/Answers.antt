use Rattle.rasta_check.proofs.Script.Fits.{answered_once}
use Rattle.rasta_check.proofs.laws.scripts_have_one_answer.Goals as goal

pub returns : goal.returns
returns c p side packets own peer es = answered_once p packets own peer side es
