use Rattle.rasta_sha256.proofs.Blocks.{rounds_more}
use Rattle.rasta_sha256.proofs.rounds.round_at.Goals as goal

pub returns : goal.returns
returns c = λ group hash held before.
    rounds_more group hash c.args.variables _ c.args.words.now c.args.lane c.args.t c.requires.lane c.requires.t held before c.round.ensures
