-- Datagrams that weren't captured whole.
use Rattle.std.specs.Prelude.{ℕ, ◌+◌, ◌-◌, ◌==◌, ◌&&◌, Bool, false, List, [], ◌∷◌, length, drop, slice_range, Option}
use Rattle.std.specs.Prelude.{None, Some, is_some, Result, Ok, Err, nat_lt, nat_le, if◌then◌else◌}
use Rattle.rasta_pcap.specs.declared.fault.Fault.{Fault}
use Rattle.rasta_pcap.specs.Fault.{cut_packet}
use Rattle.rasta_pdu.specs.Pdu.{kind_of}
use Rattle.rasta_pdu.specs.Pdu as pdus
use Rattle.rasta_udp.specs.declared.channel.Channel.{Channel}
use Rattle.rasta_udp.specs.Frame.{Packet, header_length_of, untagged, big_at, packet_in}
use Rattle.rasta_udp.specs.Route.{route_of}
use Rattle.seatmelon_packets.specs.Features.{check_length_in}
use Rattle.seatmelon_packets.specs.declared.cut.Cut.{Cut}
use Rattle.seatmelon_packets.specs.declared.packet.Sight.{Sight}
use Rattle.seatmelon_packets.specs.declared.packet.Sight.TheVariants as sights

-- what was captured of a datagram of this length begins as RaSTA does: its length field says that length, its safety
-- PDU and a check code of some length fill the rest, and the type is a known one
unfoldable pub begins_pdu : ℕ → List ℕ → Bool
begins_pdu due bytes = nat_le 12 (length bytes)
    && ((pdus.little_at 2 0 bytes == due)
    && (is_some (check_length_in (pdus.little_at 2 8 bytes) (due - 8))
    && is_some (kind_of (pdus.little_at 2 10 bytes))))

-- the same of the datagram behind this header of UDP, whose length counts the header
abbrev pub begins_behind : List ℕ → Bool
begins_behind udp = nat_le 8 (length udp) && begins_pdu (big_at 2 4 udp - 8) (drop 8 udp)

-- the same of the datagram in a frame without a tag
abbrev pub begins_by : List ℕ → Bool
begins_by frame =
    nat_le (14 + header_length_of frame) (length frame) && begins_behind (drop (14 + header_length_of frame) frame)

unfoldable pub has_form : List ℕ → Bool
has_form frame = nat_le 34 (length (untagged frame)) && begins_by (untagged frame)

abbrev pub is_cut_fault : Result (Option Packet) Fault → Bool
is_cut_fault (Ok found) = false
is_cut_fault (Err fault) = fault.number == cut_packet

abbrev pub cut_on : List ℕ → Option Channel → Option Cut
cut_on frame None = None
cut_on frame (Some route) =
    if is_cut_fault (packet_in (route ∷ []) frame) then Some (record { route = route; has_form = has_form frame })
    else None

-- the datagram of a frame that was captured cut: as one between these ends it is refused as not captured whole
abbrev pub cut_in : List ℕ → Option Cut
cut_in frame = cut_on frame (route_of frame)

-- what is seen of a cut datagram
abbrev pub cut_of : Sight → Option Cut
cut_of (sights.Packet packet) = None
cut_of (sights.Cut cut) = Some cut
cut_of sights.Other = None
