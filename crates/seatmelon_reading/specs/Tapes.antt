-- The packets of a connection that are kept, on demand or behind what crossed.
use Rattle.std.specs.Prelude.{ℕ, List, map}
use Rattle.rasta_udp.specs.Frame.{Packet}
use Rattle.seatmelon_reading.specs.declared.tape.Tape.{Tape}
use Rattle.seatmelon_reading.specs.declared.tape.Taped.{Taped}

-- a packet, and the number of the record that holds it
pub record NumberedPacket : Type 0 where
  pub number : ℕ
  pub packet : Packet

abbrev pub numbered_with : ℕ → Packet → NumberedPacket
numbered_with number packet = record { number = number; packet = packet }

abbrev pub taped_as : Taped → NumberedPacket
taped_as t = record {
  number = t.«record»;
  packet = record { channel = t.channel; side = t.sender; payload = t.datagram.items };
}

-- those that are kept, by place
abbrev pub taped_in : Tape → List NumberedPacket
taped_in t = map taped_as t.packets.items
