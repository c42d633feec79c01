-- Why records hold no packet of the recorded channels, and how many of each sort there are.
use Rattle.std.specs.Prelude.{ℕ, ◌+◌, ◌<◌, ◌^◌, ◌==◌, ◌&&◌, ◌||◌, List, length, nat_le, Bool, true, false, Option, None}
use Rattle.std.specs.Prelude.{Some, Result, Ok, Err, if◌then◌else◌}
use Rattle.rasta_pcap.specs.declared.fault.Fault.{Fault}
use Rattle.rasta_udp.specs.declared.channel.Channel.{Channel}
use Rattle.rasta_udp.specs.Frame.{Fields, Packet, fields_of, is_tagged, big_at, packet_in, without_tag}
use Rattle.seatmelon_reading.specs.declared.passed_over.PassedOver.{PassedOver}
use Rattle.seatmelon_reading.specs.declared.passed_over.WhyPassed.{WhyPassed}
use Rattle.seatmelon_reading.specs.declared.passed_over.WhyPassed.TheVariants.{LeftOut, NotUdp, Tagged, Elsewhere}
use Rattle.seatmelon_reading.specs.declared.passed_over.WhyPassed.TheVariants.{Unreadable}

-- the frame without the one tag that is passed over
abbrev pub untagged : List ℕ → List ℕ
untagged frame = if is_tagged frame then without_tag frame else frame

-- UDP over IPv4: 0800 is the type of IPv4, and 17 the protocol of UDP
abbrev pub is_udp : Fields → Bool
is_udp x =
    nat_le 34 x.captured && x.ether_type == 0x0800 && x.version == 4 && nat_le 20 x.header_length && x.protocol == 17

-- the frame begins with a tag that is captured whole: one of IEEE 802.1Q, or one of IEEE 802.1ad
abbrev pub has_outer_tag : List ℕ → Bool
has_outer_tag frame = nat_le 16 (length frame) && (big_at 2 12 frame == 0x8100 || big_at 2 12 frame == 0x88a8)

-- a frame of which this is read holds a packet of the channels, or a faulty one of their hosts
abbrev pub is_of_channels : Result (Option Packet) Fault → Bool
is_of_channels (Ok None) = false
is_of_channels (Ok (Some packet)) = true
is_of_channels (Err fault) = true

-- it holds one without its outer tag
abbrev pub is_behind_tag : List Channel → List ℕ → Bool
is_behind_tag channels frame = has_outer_tag frame && is_of_channels (packet_in channels (without_tag frame))

-- it holds one without its outer tag, or without two of them
abbrev pub is_behind_tags : List Channel → List ℕ → Bool
is_behind_tags channels frame =
    has_outer_tag frame && (is_behind_tag channels frame || is_behind_tag channels (without_tag frame))

-- why a frame holds neither a packet of the channels nor a faulty one of their hosts
abbrev pub why_not : List Channel → List ℕ → WhyPassed
why_not channels frame = if is_behind_tags channels frame then Tagged
    else if is_udp (fields_of (untagged frame)) then Elsewhere else NotUdp

-- why a frame of which this is read holds no packet of the channels; none where it holds one
abbrev pub why_by : List Channel → List ℕ → Result (Option Packet) Fault → Option WhyPassed
why_by channels frame (Ok (Some packet)) = None
why_by channels frame (Ok None) = Some (why_not channels frame)
why_by channels frame (Err fault) = Some Unreadable

-- ---- how many there are

abbrev pub is_same : WhyPassed → WhyPassed → Bool
is_same LeftOut LeftOut = true
is_same NotUdp NotUdp = true
is_same Tagged Tagged = true
is_same Elsewhere Elsewhere = true
is_same Unreadable Unreadable = true
is_same why other = false

abbrev pub is_for : WhyPassed → Option WhyPassed → Bool
is_for why None = false
is_for why (Some other) = is_same why other

abbrev pub total_of : PassedOver → ℕ
total_of n = n.left_out + n.not_udp + n.tagged + n.elsewhere + n.unreadable

-- ---- on the way

-- with one record more of this sort
abbrev pub passed_with : PassedOver → WhyPassed → PassedOver
passed_with n LeftOut = record n { left_out = n.left_out + 1 }
passed_with n NotUdp = record n { not_udp = n.not_udp + 1 }
passed_with n Tagged = record n { tagged = n.tagged + 1 }
passed_with n Elsewhere = record n { elsewhere = n.elsewhere + 1 }
passed_with n Unreadable = record n { unreadable = n.unreadable + 1 }

-- none of them reaches 2 ^ 32
pub record AreFew (n : PassedOver) : Type 0 where
  pub left_out : n.left_out < 2 ^ 32
  pub not_udp : n.not_udp < 2 ^ 32
  pub tagged : n.tagged < 2 ^ 32
  pub elsewhere : n.elsewhere < 2 ^ 32
  pub unreadable : n.unreadable < 2 ^ 32
