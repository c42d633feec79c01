use Rattle.rasta_check.proofs.Theorem.Middle.{in_order, unit, is_unit, in_time}
use Rattle.rasta_check.proofs.laws.from_the_middle.Goals as goal

pub returns : goal.returns
returns z p h ws w side packets places r within cross = record {
  in_order = in_order p h.valid ws w side packets places r within cross;
  in_time = λ d a s. (
    unit p h.valid ws w side packets places r within cross d a s,
    is_unit p h.valid ws w side packets places r within cross d a s,
    in_time p h.valid ws w side packets places r within cross d a s,
  );
}
