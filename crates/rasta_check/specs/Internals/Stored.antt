-- What crossed, as a store keeps it.
use Rattle.std.specs.Prelude.{◌≡◌, ℕ, suc, ◌<◌, List, [], ◌∷◌, ◌++◌, length, map, Option, Some, None, is_some, Result}
use Rattle.std.specs.Prelude.{Ok, Err, slice_get, if◌then◌else◌}
use Rattle.rasta_pcap.specs.declared.fault.Fault.{Fault}
use Rattle.rasta_pcap.specs.declared.fault.Side.{Side}
use Rattle.rasta_pcap.specs.declared.fault.Side.TheVariants.{Client, Server}
use Rattle.rasta_udp.specs.Frame.{Packet}
use Rattle.rasta_pdu.specs.declared.kind.Kind.TheVariants.{Heartbeat}
use Rattle.rasta_pdu.specs.Params.{Parameters}
use Rattle.rasta_pdu.specs.Pdu.{RedundancyPdu, Empty, redundancy_bytes, decode_of}
use Rattle.rasta_check.specs.declared.packet_store.StoredPacket.{StoredPacket}
use Rattle.rasta_check.specs.Capture.SentLists.{FirstCopy, Spells}
use Rattle.rasta_check.specs.Internals.Datagrams.{Kept, KeptDatagrams, kept_by}
use Rattle.rasta_check.specs.Capture.Lists.{position_of_place}
use Rattle.rasta_check.specs.Capture.Crossing.{Crossing, IsCrossing, sent_by}
use Rattle.rasta_check.specs.Capture.Reading.{sent_after}

-- ---- the bytes of first copies

-- the payloads of those of these packets that are first copies, one after the other; the first packet is at this place
unfoldable pub first_copies_from : Crossing → ℕ → List Packet → List ℕ
first_copies_from k place [] = []
first_copies_from k place (packet ∷ packets) =
    (if is_some (position_of_place (sent_by k packet.side) place) then packet.payload else [])
    ++ first_copies_from k (suc place) packets

-- the datagrams of both sides' first copies, one after the other in the order in which they crossed
abbrev pub first_copy_bytes : Crossing → List ℕ
first_copy_bytes k = first_copies_from k 0 k.packets

-- ---- what a store stands for

-- the PDU that was read; where there is a fault, any
abbrev pub pdu_in : Result RedundancyPdu Fault → RedundancyPdu
pdu_in (Ok pdu) = pdu
pdu_in (Err fault) = record {
  reserve = 0;
  number = 0;
  safety = record { kind = Heartbeat; sn = 0; cs = 0; ts = 0; cts = 0; body = Empty };
  check_bytes = [];
}

-- a first copy by its datagram
abbrev pub copy_in : Parameters → Side → Kept → FirstCopy
copy_in p side x = record { place = x.place; pdu = pdu_in (decode_of p side x.bytes) }

abbrev pub bytes_of : Option Kept → List ℕ
bytes_of None = []
bytes_of (Some x) = x.bytes

-- a packet with the payload of the first copy at its position
abbrev pub packet_by : KeptDatagrams → StoredPacket → Packet
packet_by d x = record {
  channel = x.channel;
  side = x.side;
  payload = bytes_of (slice_get (kept_by d x.side) x.position);
}

-- what crossed, by datagrams and packets
abbrev pub crossing_by : Parameters → KeptDatagrams → List StoredPacket → Crossing
crossing_by p d packets = record {
  params = p;
  packets = map (packet_by d) packets;
  client = map (copy_in p Client) d.client;
  server = map (copy_in p Server) d.server;
}

-- each datagram of this side decodes
abbrev pub Decode : Parameters → Side → List Kept → Type 0
Decode p side kept = (i : ℕ) (x : Kept) → slice_get kept i ≡ Some x
    → (pdu : RedundancyPdu) × (decode_of p side x.bytes ≡ Ok pdu) × Spells p side pdu x.bytes

-- each packet has the position of a datagram of its side
abbrev pub HavePositions : KeptDatagrams → List StoredPacket → Type 0
HavePositions d packets = (i : ℕ) (x : StoredPacket) → slice_get packets i ≡ Some x
    → x.position < length (kept_by d x.side)

-- so a store keeps what crossed
pub record IsStore (p : Parameters) (d : KeptDatagrams) (packets : List StoredPacket) : Type 0 where
  pub crossing : IsCrossing (crossing_by p d packets)
  pub decode : (side : Side) → Decode p side (kept_by d side)
  pub positions : HavePositions d packets
  pub bytes : d.bytes ≡ first_copy_bytes (crossing_by p d packets)

-- ---- one packet more

-- a packet without a fault: its PDU joins the list of its side, or it repeats the first copy at this position
abbrev pub HasPosition : Crossing → Packet → Option ℕ → Type 0
HasPosition k packet None = (pdu : RedundancyPdu) × (decode_of k.params packet.side packet.payload ≡ Ok pdu)
    × Spells k.params packet.side pdu packet.payload
    × (sent_after k packet ≡ sent_by k packet.side ++ record { place = length k.packets; pdu = pdu } ∷ [])
HasPosition k packet (Some position) = (copy : FirstCopy) × (slice_get (sent_by k packet.side) position ≡ Some copy)
    × (packet.payload ≡ redundancy_bytes k.params packet.side copy.pdu)
    × (sent_after k packet ≡ sent_by k packet.side)
