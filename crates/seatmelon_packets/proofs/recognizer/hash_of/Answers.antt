use Rattle.std.proofs.Common.{rules}
use Rattle.seatmelon_packets.proofs.recognizer.hash_of.Goals as goal

pub returns : goal.returns
returns c = search rules
