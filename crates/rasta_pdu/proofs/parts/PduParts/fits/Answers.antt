use Rattle.std.proofs.Common.{rules}
use Rattle.rasta_pdu.proofs.parts.PduParts.fits.Goals as goal

pub returns-then-is_body_of : goal.returns-then-is_body_of
returns-then-is_body_of c = search rules
