use Rattle.rasta_end.proofs.Meant.{deadline_is}
use Rattle.rasta_end.proofs.laws.deadline_follows_the_confirmed_time.Goals as goal

pub returns : goal.returns
returns c = deadline_is
