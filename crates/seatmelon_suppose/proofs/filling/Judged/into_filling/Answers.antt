use Rattle.seatmelon_suppose.proofs.Judging.{judged-filling}
use Rattle.seatmelon_suppose.proofs.filling.Judged.into_filling.Goals as goal

pub returns-clause-judged : goal.returns-clause-judged
returns-clause-judged c p packets most judged = judged-filling p packets most c.args.self judged
