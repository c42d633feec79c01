use Rattle.std.proofs.Common.{rules}
use Rattle.seatmelon_packets.proofs.lengths.fit_of.Goals as goal

pub returns-in-Err-2 : goal.returns-in-Err-2
returns-in-Err-2 c = search rules
