use Rattle.rasta_sha256.proofs.Lanes.{HoldsWords_more, words_first}
use Rattle.std.proofs.Common.{arith}
use Rattle.rasta_sha256.proofs.schedules.load.Goals as goal

pub returns : goal.returns
returns c = λ held.
    HoldsWords_more c.args.group.now c.args.words.now c.args.t _ (omega arith) held
    (words_first c.args.group.now c.args.t _ _ _ _ c.requires.early c.word_at.ensures c.word_at-2.ensures c.word_at-3.ensures c.word_at-4.ensures)
