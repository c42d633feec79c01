use Rattle.rasta_pdu.specs.Pdu.{value_of}
use Rattle.rasta_pdu.proofs.decoder.Decoder.decode.Goals as goal

pub keep-requires : goal.keep-requires
keep-requires c = rw (← c.self.view_is) (value_of c.in_ok-pdu.pdu, c.in_ok-pdu.ensures.value)

pub returns-clause-code : goal.returns-clause-code
returns-clause-code c = rw (← c.is_kept.ensures.params, ← c.self.view_is) c.in_ok-pdu.ensures.code
