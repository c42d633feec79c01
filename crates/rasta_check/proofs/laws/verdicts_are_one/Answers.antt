use Rattle.std.proofs.Common.{refl}
use Rattle.rasta_check.proofs.Script.Fits.{is_verdict, one_answer}
use Rattle.rasta_check.proofs.laws.verdicts_are_one.Goals as goal

pub returns : goal.returns
returns z p packets c s scripts = record {
  some = (_, is_verdict p packets c s scripts _ refl);
  one = λ a b h k. one_answer p packets c s scripts a b h k;
}
