-- Where a packet crossed.
use Rattle.std.specs.Prelude.{Option, option_map}
use Rattle.rasta_udp.specs.Frame.{Packet}
use Rattle.rasta_check.specs.declared.passage.Passage.{Passage}

-- sender and channel of a packet
abbrev pub passage_of : Packet → Passage
passage_of packet = record { side = packet.side; channel = packet.channel }

abbrev pub passage_in : Option Packet → Option Passage
passage_in packet = option_map passage_of packet
