-- Packets that crossed, as they are told.
use Rattle.std.specs.Prelude.{◌≡◌, ℕ, List, Bool, false, not, ◌&&◌, Option, None, Some, is_none, slice_get, option_map}
use Rattle.std.specs.Option.{option_and_then}
use Rattle.rasta_pcap.specs.declared.fault.Side.{Side}
use Rattle.rasta_pcap.specs.declared.fault.Side.TheVariants.{Client, Server}
use Rattle.rasta_udp.specs.Frame.{Packet}
use Rattle.rasta_pdu.specs.declared.kind.Kind.{Kind}
use Rattle.rasta_pdu.specs.declared.kind.Kind.TheVariants.{ConnectionRequest, ConnectionResponse}
use Rattle.rasta_pdu.specs.declared.pdu.Pdu.{Pdu}
use Rattle.rasta_pdu.specs.Pdu.{RedundancyPdu, is_kind, value_of}
use Rattle.rasta_check.specs.Capture.SentLists.{FirstCopy}
use Rattle.rasta_check.specs.Capture.Lists.{position_of_place}
use Rattle.rasta_check.specs.Capture.Crossing.{Crossing, sent_by}
use Rattle.seatmelon_account.specs.declared.crossed.Crossed.{Crossed}

-- the PDU of an end at a place, if a first copy crossed there
abbrev pub pdu_at : List FirstCopy → ℕ → Option RedundancyPdu
pdu_at sent place =
    option_map (λ (copy : FirstCopy). copy.pdu) (option_and_then (slice_get sent) (position_of_place sent place))

-- a packet as it is told: its sender, its place, and its PDU where it is a first copy
pub record IsCrossed (k : Crossing) (place : ℕ) (told : Crossed) : Type 0 where
  pub packet : Packet
  pub crossed : slice_get k.packets place ≡ Some packet
  pub side : told.side ≡ packet.side
  pub there : told.place ≡ place
  pub spelled : option_map value_of told.pdu ≡ pdu_at (sent_by k packet.side) place

-- the packet at a place is told, if one crossed there
abbrev pub IsCrossedAt : Crossing → ℕ → Option Crossed → Type 0
IsCrossedAt k place None = slice_get k.packets place ≡ None
IsCrossedAt k place (Some told) = IsCrossed k place told

-- the PDU of the packet at a place, where it is a first copy
abbrev pub pdu_crossed : Crossing → ℕ → Option RedundancyPdu
pdu_crossed k place =
    option_and_then (λ (packet : Packet). pdu_at (sent_by k packet.side) place) (slice_get k.packets place)

abbrev pub opens : Option RedundancyPdu → Bool
opens None = false
opens (Some pdu) = is_kind ConnectionRequest pdu.safety.kind

-- the first packet that crossed opens the connection
abbrev pub has_opening : Crossing → Bool
has_opening k = opens (pdu_crossed k 0)

-- no quiet point is recorded, and the first packet opens no connection
abbrev pub lacks_opening : Crossing → Bool
lacks_opening k = is_none k.params.quiet && not (has_opening k)

-- a PDU of the opening that the other end sends
abbrev pub is_others : Side → Kind → Bool
is_others Client kind = is_kind ConnectionResponse kind
is_others Server kind = is_kind ConnectionRequest kind

abbrev pub is_others_opening : Side → Option Pdu → Bool
is_others_opening side None = false
is_others_opening side (Some pdu) = is_others side (value_of pdu).safety.kind

abbrev pub is_exchanged : Option Crossed → Bool
is_exchanged None = false
is_exchanged (Some told) = is_others_opening told.side told.pdu
