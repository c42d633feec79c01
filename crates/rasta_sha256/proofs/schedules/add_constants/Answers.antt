use Rattle.rasta_sha256.proofs.Lanes.{HoldsSums_none}
use Rattle.rasta_sha256.proofs.schedules.add_constants.Goals as goal

pub returns : goal.returns
returns c = λ group held.
    let s1 = c.add_eight_constants.ensures group (HoldsSums_none group c.args.words.now held) in
    let s2 = c.add_eight_constants-2.ensures group s1 in
    let s3 = c.add_eight_constants-3.ensures group s2 in
    let s4 = c.add_eight_constants-4.ensures group s3 in
    let s5 = c.add_eight_constants-5.ensures group s4 in
    let s6 = c.add_eight_constants-6.ensures group s5 in
    let s7 = c.add_eight_constants-7.ensures group s6 in
    c.add_eight_constants-8.ensures group s7
