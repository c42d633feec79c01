-- The datagram in a captured frame: Ethernet II with at most one tag of IEEE 802.1Q, IPv4 (RFC 791)
-- and UDP (RFC 768).
use Rattle.std.specs.Prelude.{ℕ, ◌+◌, ◌-◌, ◌*◌, ◌/◌, ◌%◌, List, [], ◌∷◌, ◌++◌, length, take, drop, Bool, not, ◌&&◌}
use Rattle.std.specs.Prelude.{◌||◌, ◌==◌, nat_lt, nat_le, if◌then◌else◌, Option, Some, None, is_none, Result, Ok, Err}
use Rattle.std.specs.Prelude.{slice_index, slice_range}
use Rattle.std.specs.List.{list_any, find}
use Rattle.std.specs.Option.{option_map}
use Rattle.byteorder.specs.Endian.{big_number}
use Rattle.rasta_pcap.specs.declared.fault.Fault.{Fault}
use Rattle.rasta_pcap.specs.declared.fault.Side.{Side}
use Rattle.rasta_pcap.specs.declared.fault.Side.TheVariants.{Client, Server}
use Rattle.rasta_pcap.specs.Fault.{fault_at, cut_packet, fragment, bad_udp}
use Rattle.rasta_udp.specs.declared.channel.Channel.{Channel}
use Rattle.rasta_udp.specs.declared.channel.Endpoint.{Endpoint}
use Rattle.rasta_udp.specs.declared.channel.Datagram.{Datagram}

-- the number in the n bytes from this place on, the highest byte first
unfoldable pub big_at : ℕ → ℕ → List ℕ → ℕ
big_at n place bytes = big_number n (drop place bytes)

-- an IPv4 address as one number of 32 bits
abbrev pub address_of : Endpoint → ℕ
address_of e = big_at 4 0 e.address

-- what is read of a frame: how many bytes were captured, the type of Ethernet II, and fields under
-- the names of RFC 791 and RFC 768, the header length in bytes
pub record Fields : Type 0 where
  pub captured : ℕ
  pub ether_type : ℕ
  pub version : ℕ
  pub header_length : ℕ
  pub total_length : ℕ
  pub more_fragments : ℕ
  pub fragment_offset : ℕ
  pub protocol : ℕ
  pub source_address : ℕ
  pub destination_address : ℕ
  pub source_port : ℕ
  pub destination_port : ℕ
  pub udp_length : ℕ

-- the internet header length, in bytes: the field counts words of 32 bits
abbrev pub header_length_of : List ℕ → ℕ
header_length_of frame = 4 * (slice_index frame 14 % 16)

-- where each field stands: the header of IPv4 at 14, and that of UDP after it
abbrev pub fields_of : List ℕ → Fields
fields_of frame = record {
  captured = length frame;
  ether_type = big_at 2 12 frame;
  version = slice_index frame 14 / 16;
  header_length = header_length_of frame;
  total_length = big_at 2 16 frame;
  more_fragments = big_at 2 20 frame / 0x2000 % 2;
  fragment_offset = big_at 2 20 frame % 0x2000;
  protocol = slice_index frame 23;
  source_address = big_at 4 26 frame;
  destination_address = big_at 4 30 frame;
  source_port = big_at 2 (14 + header_length_of frame) frame;
  destination_port = big_at 2 (16 + header_length_of frame) frame;
  udp_length = big_at 2 (18 + header_length_of frame) frame;
}

-- one direction of a channel: the channel's number, the sending side, and who sends to whom
pub record Direction : Type 0 where
  pub channel : ℕ
  pub side : Side
  pub source : Endpoint
  pub destination : Endpoint

-- the directions of channels whose first has this number: in the order of the channels, and of each
-- channel the client's direction first
abbrev pub directions_from : ℕ → List Channel → List Direction
directions_from number [] = []
directions_from number (c ∷ channels) =
    record { channel = number; side = Client; source = c.client; destination = c.server }
    ∷ record { channel = number; side = Server; source = c.server; destination = c.client }
    ∷ directions_from (number + 1) channels

-- the directions of all channels, which are numbered from 1
abbrev pub directions : List Channel → List Direction
directions channels = directions_from 1 channels

-- the frame goes from one end to the other, by its addresses
unfoldable pub has_addresses : Fields → Endpoint → Endpoint → Bool
has_addresses x source destination =
    x.source_address == address_of source && x.destination_address == address_of destination

-- the same by its addresses and ports
unfoldable pub goes : Fields → Endpoint → Endpoint → Bool
goes x source destination = has_addresses x source destination
    && (x.source_port == source.port && x.destination_port == destination.port)

-- the addresses are those of some direction
unfoldable pub has_known_addresses : List Channel → Fields → Bool
has_known_addresses channels x =
    list_any (λ (d : Direction). has_addresses x d.source d.destination) (directions channels)

-- the first direction in which the frame goes
unfoldable pub direction_of : List Channel → Fields → Option Direction
direction_of channels x = find (λ (d : Direction). goes x d.source d.destination) (directions channels)

-- a datagram of a channel in a frame: the channel's number, the sending side, and the range of the
-- frame's bytes that is the payload
pub record Found : Type 0 where
  pub channel : ℕ
  pub side : Side
  pub start : ℕ
  pub end : ℕ

-- the datagram of this direction: its payload is what follows the 8 bytes of the UDP header
abbrev pub found_in : Fields → Direction → Found
found_in x d = record {
  channel = d.channel;
  side = d.side;
  start = 22 + x.header_length;
  end = 14 + x.header_length + x.udp_length;
}

-- what a frame without a tag is: the first case that applies decides. None is a frame that is not of
-- these channels; 0800 is the type of IPv4, and 17 the protocol of UDP
unfoldable pub found_by : List Channel → Fields → Result (Option Found) Fault
found_by channels x =
    if nat_lt x.captured 34 then Ok None
    else if not (x.ether_type == 0x0800) then Ok None
    else if not (x.version == 4) || nat_lt x.header_length 20 then Ok None
    else if not (x.protocol == 17) then Ok None
    else if not (has_known_addresses channels x) then Ok None
    else if x.more_fragments == 1 || nat_lt 0 x.fragment_offset then Err (fault_at fragment 0)
    else if nat_lt x.total_length (x.header_length + 8) then Err (fault_at bad_udp 0)
    else if nat_lt x.captured (14 + x.header_length + 8) then Err (fault_at cut_packet 0)
    else if is_none (direction_of channels x) then Ok None
    else if nat_lt x.udp_length 8 || nat_lt (x.total_length - x.header_length) x.udp_length
    then Err (fault_at bad_udp 0)
    else if nat_lt x.captured (14 + x.header_length + x.udp_length) then Err (fault_at cut_packet 0)
    else Ok (option_map (found_in x) (direction_of channels x))

abbrev pub untagged_of : List Channel → List ℕ → Result (Option Found) Fault
untagged_of channels frame = found_by channels (fields_of frame)

-- the same answer, with its datagram turned by f
abbrev pub map_found : {A B : Type 0} → (A → B) → Result (Option A) Fault → Result (Option B) Fault
map_found f (Ok None) = Ok None
map_found f (Ok (Some x)) = Ok (Some (f x))
map_found f (Err fault) = Err fault

-- the frame has a tag: its type field is that of IEEE 802.1Q, and the tag is captured whole
abbrev pub is_tagged : List ℕ → Bool
is_tagged frame = nat_le 16 (length frame) && big_at 2 12 frame == 0x8100

-- a frame from its tag on, if it has one: what follows its first 12 bytes stands there as in a frame without a tag
abbrev pub untagged : List ℕ → List ℕ
untagged frame = if is_tagged frame then drop 4 frame else frame

-- the frame without its tag, bytes 12 to 15
abbrev pub without_tag : List ℕ → List ℕ
without_tag frame = take 12 frame ++ drop 16 frame

-- the same datagram, n bytes further on
abbrev pub moved_on : ℕ → Found → Found
moved_on n d = record d { start = d.start + n; end = d.end + n }

-- what a frame is: a tagged one is what it is without its tag, 4 bytes further on
unfoldable pub datagram_of : List Channel → List ℕ → Result (Option Found) Fault
datagram_of channels frame =
    if is_tagged frame then map_found (moved_on 4) (untagged_of channels (without_tag frame))
    else untagged_of channels frame

-- a datagram with its payload's bytes
pub record Packet : Type 0 where
  pub channel : ℕ
  pub side : Side
  pub payload : List ℕ

-- the datagram with the bytes of its range
abbrev pub packet_at : List ℕ → Found → Packet
packet_at frame d = record { channel = d.channel; side = d.side; payload = slice_range frame d.start d.end }

-- the datagram as it is handed out
abbrev pub packet_of : Datagram → Packet
packet_of d = record { channel = d.channel; side = d.side; payload = d.payload.now }

-- the packet of these channels that a frame holds: none, or a fault
unfoldable pub packet_in : List Channel → List ℕ → Result (Option Packet) Fault
packet_in channels frame = map_found (packet_at frame) (datagram_of channels frame)
