use Rattle.std.proofs.Common.{rules}
use Rattle.seatmelon_packets.proofs.lengths.CodeTrials.fits_of.Goals as goal

pub returns : goal.returns
returns c = search rules
