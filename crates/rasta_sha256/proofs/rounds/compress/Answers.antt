use Rattle.std.proofs.Common.{refl, ap}
use Rattle.sha2.specs.Sha256.{add_state, compress, rounds}
use Rattle.rasta_sha256.proofs.rounds.compress.Goals as goal

pub returns : goal.returns
unfolding compress rounds
returns c = λ group held.
    let hash = c.args.hash.now in
    let r1 = c.eight_rounds-variables.ensures group hash held refl in
    let r2 = c.eight_rounds-variables-2.ensures group hash held r1 in
    let r3 = c.eight_rounds-variables-3.ensures group hash held r2 in
    let r4 = c.eight_rounds-variables-4.ensures group hash held r3 in
    let r5 = c.eight_rounds-variables-5.ensures group hash held r4 in
    let r6 = c.eight_rounds-variables-6.ensures group hash held r5 in
    let r7 = c.eight_rounds-variables-7.ensures group hash held r6 in
    let r8 = c.eight_rounds.ensures group hash held r7 in
    ap (add_state hash) r8
