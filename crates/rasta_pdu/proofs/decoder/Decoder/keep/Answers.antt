use Rattle.std.proofs.Common.{rules}
use Rattle.rasta_pdu.proofs.decoder.Decoder.keep.Goals as goal

pub invariant_of-self-else-keep : goal.invariant_of-self-else-keep
invariant_of-self-else-keep c = search rules
