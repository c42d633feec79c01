use Rattle.rasta_md4.specs.Md4.{round_1}
use Rattle.rasta_md4.proofs.rounds.round_1.Goals as goal

pub returns : goal.returns
unfolding round_1
returns c = cc
