use Rattle.std.proofs.Common.{rules}
use Rattle.rasta_md4.specs.Md4.{blocks}
use Rattle.rasta_md4.specs.Progress.{holding}
use Rattle.rasta_md4.proofs.Md4.with_words.Goals as goal

pub returns : goal.returns
unfolding blocks holding
returns c = search rules
