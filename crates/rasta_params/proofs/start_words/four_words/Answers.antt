use Rattle.std.proofs.Common.{rules}
use Rattle.rasta_params.proofs.start_words.four_words.Goals as goal

pub returns : goal.returns
returns c = search rules
