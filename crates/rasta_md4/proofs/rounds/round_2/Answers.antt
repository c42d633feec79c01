use Rattle.rasta_md4.specs.Md4.{round_2}
use Rattle.rasta_md4.proofs.rounds.round_2.Goals as goal

pub returns : goal.returns
unfolding round_2
returns c = cc
