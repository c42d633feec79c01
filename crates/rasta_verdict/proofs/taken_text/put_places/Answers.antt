use Rattle.std.proofs.Common.{rules}
use Rattle.rasta_verdict.proofs.taken_text.put_places.Goals as goal

pub returns : goal.returns
returns c = search rules
