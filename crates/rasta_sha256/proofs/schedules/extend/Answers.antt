use Rattle.rasta_sha256.proofs.Lanes.{HoldsWords_more, words_next}
use Rattle.rasta_sha256.proofs.schedules.extend.Goals as goal

pub returns : goal.returns
returns c = λ group held.
    HoldsWords_more group c.args.words.now c.args.t _ c.requires.high held
    (words_next group c.args.words.now c.args.t _ _ c.requires.low c.requires.high held c.small_sigma1.ensures c.small_sigma0.ensures)
