use Rattle.std.proofs.Common.{rules}
use Rattle.rasta_pdu.proofs.body.body_at.Goals as goal

pub returns-in-RetransmittedData : goal.returns-in-RetransmittedData
returns-in-RetransmittedData c = search rules
