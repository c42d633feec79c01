use Rattle.std.proofs.Common.{refl}
use Rattle.rasta_sha256.proofs.Lanes.{HoldsSums_more}
use Rattle.rasta_sha256.proofs.schedules.add_constant.Goals as goal

pub returns : goal.returns
returns c = λ group held. HoldsSums_more group c.args.words.now c.args.t _ c.requires refl held
