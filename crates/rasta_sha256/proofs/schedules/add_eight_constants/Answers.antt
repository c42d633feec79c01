use Rattle.std.proofs.Common.{arith}
use Rattle.rasta_sha256.proofs.Lanes.{HoldsSums_at}
use Rattle.rasta_sha256.proofs.schedules.add_eight_constants.Goals as goal

pub returns : goal.returns
returns c = λ group held.
    let s1 = c.add_constant.ensures group held in
    let s2 = c.add_constant-2.ensures group s1 in
    let s3 = c.add_constant-3.ensures group (HoldsSums_at group _ _ _ (omega arith) s2) in
    let s4 = c.add_constant-4.ensures group (HoldsSums_at group _ _ _ (omega arith) s3) in
    let s5 = c.add_constant-5.ensures group (HoldsSums_at group _ _ _ (omega arith) s4) in
    let s6 = c.add_constant-6.ensures group (HoldsSums_at group _ _ _ (omega arith) s5) in
    let s7 = c.add_constant-7.ensures group (HoldsSums_at group _ _ _ (omega arith) s6) in
    let s8 = c.add_constant-8.ensures group (HoldsSums_at group _ _ _ (omega arith) s7) in
    HoldsSums_at group _ _ _ (omega arith) s8
