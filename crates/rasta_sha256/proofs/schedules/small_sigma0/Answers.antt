use Rattle.rasta_sha256.proofs.Lanes.{sigma0_each}
use Rattle.rasta_sha256.proofs.schedules.small_sigma0.Goals as goal

pub returns : goal.returns
returns c = sigma0_each c.args.x c.fits-x.0 c.fits-x.1
