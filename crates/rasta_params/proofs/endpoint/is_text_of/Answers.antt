use Rattle.std.proofs.Common.{rules}
use Rattle.rasta_params.proofs.endpoint.is_text_of.Goals as goal

pub returns : goal.returns
returns c = search rules
