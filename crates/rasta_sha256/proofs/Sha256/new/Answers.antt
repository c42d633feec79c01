use Rattle.std.proofs.Common.{rules}
use Rattle.sha2.specs.Sha256.{hash_after}
use Rattle.rasta_sha256.specs.Progress.{holding}
use Rattle.rasta_sha256.proofs.Sha256.new.Goals as goal

pub returns : goal.returns
unfolding hash_after holding
returns c = search rules
