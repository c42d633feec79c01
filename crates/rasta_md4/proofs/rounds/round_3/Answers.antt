use Rattle.rasta_md4.specs.Md4.{round_3}
use Rattle.rasta_md4.proofs.rounds.round_3.Goals as goal

pub returns : goal.returns
unfolding round_3
returns c = cc
