use Rattle.std.proofs.Common.{rules}
use Rattle.rasta_pdu.proofs.params.are_lengths.Goals as goal

pub returns-in-0-matches : goal.returns-in-0-matches
returns-in-0-matches c = search rules
