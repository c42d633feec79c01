use Rattle.rasta_pdu.proofs.Spellings.{decode_of-Ok, decode_of-redundancy_bytes}
use Rattle.rasta_pdu.proofs.laws.datagram_is_read.Goals as goal

pub returns-clause-spelled : goal.returns-clause-spelled
returns-clause-spelled c p side bytes r valid are h = let is = decode_of-Ok p side bytes r valid are h in (is.is, is.spelled)

pub returns-clause-read_back : goal.returns-clause-read_back
returns-clause-read_back c p side r valid to from is = decode_of-redundancy_bytes p side r valid to from is
