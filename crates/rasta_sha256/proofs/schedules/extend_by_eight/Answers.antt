use Rattle.std.proofs.Common.{arith}
use Rattle.rasta_sha256.proofs.Lanes.{HoldsWords_at}
use Rattle.rasta_sha256.proofs.schedules.extend_by_eight.Goals as goal

pub returns : goal.returns
returns c = λ group held.
    let w1 = c.extend.ensures group held in
    let w2 = c.extend-2.ensures group w1 in
    let w3 = c.extend-3.ensures group (HoldsWords_at group _ _ _ (omega arith) w2) in
    let w4 = c.extend-4.ensures group (HoldsWords_at group _ _ _ (omega arith) w3) in
    let w5 = c.extend-5.ensures group (HoldsWords_at group _ _ _ (omega arith) w4) in
    let w6 = c.extend-6.ensures group (HoldsWords_at group _ _ _ (omega arith) w5) in
    let w7 = c.extend-7.ensures group (HoldsWords_at group _ _ _ (omega arith) w6) in
    let w8 = c.extend-8.ensures group (HoldsWords_at group _ _ _ (omega arith) w7) in
    HoldsWords_at group _ _ _ (omega arith) w8
