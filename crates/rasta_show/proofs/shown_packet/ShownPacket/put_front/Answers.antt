use Rattle.std.proofs.Common.{rules}
use Rattle.rasta_show.proofs.shown_packet.ShownPacket.put_front.Goals as goal

pub returns : goal.returns
returns c = search rules
