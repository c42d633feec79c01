use Rattle.rasta_sha256.proofs.Lanes.{sigma1_each}
use Rattle.rasta_sha256.proofs.schedules.small_sigma1.Goals as goal

pub returns : goal.returns
returns c = sigma1_each c.args.x c.fits-x.0 c.fits-x.1
