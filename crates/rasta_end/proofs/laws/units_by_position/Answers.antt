use Rattle.rasta_end.proofs.Meant.{conveyed-is}
use Rattle.rasta_end.proofs.laws.units_by_position.Goals as goal

pub returns : goal.returns
returns c = conveyed-is
