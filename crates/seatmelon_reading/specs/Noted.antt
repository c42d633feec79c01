-- What is noted of a capture's records, where some are left out.
use Rattle.std.specs.Prelude.{◌≡◌, ℕ, ◌+◌, List, [], ◌∷◌, length, map, filter, filter_map, nat_eq, nat_le, nat_lt, not}
use Rattle.std.specs.Prelude.{◌&&◌, Bool, true, false, Option, None, Some, Result, Ok, Err, option_map, if◌then◌else◌}
use Rattle.std.specs.List.{last_or, list_any}
use Rattle.rasta_pcap.specs.declared.fault.Fault.{Fault}
use Rattle.rasta_pcap.specs.declared.fault.Side.{Side}
use Rattle.rasta_pcap.specs.declared.fault.Side.TheVariants.{Client, Server}
use Rattle.rasta_pcap.specs.Captured.{Captured}
use Rattle.rasta_udp.specs.Frame.{Packet, packet_in}
use Rattle.rasta_pdu.specs.Params.{Parameters}
use Rattle.seatmelon_reading.specs.declared.notes.ChannelCount.{ChannelCount}
use Rattle.seatmelon_reading.specs.PassedOver.{is_for, why_by}
use Rattle.seatmelon_reading.specs.Tapes.{NumberedPacket, taped_in}
use Rattle.seatmelon_reading.specs.Times.{AreTimes, time_of}
use Rattle.seatmelon_reading.specs.declared.notes.LastRecord.{LastRecord}
use Rattle.seatmelon_reading.specs.declared.notes.Notes.{Notes}
use Rattle.seatmelon_reading.specs.declared.notes.Sighting.{Sighting}
use Rattle.seatmelon_reading.specs.declared.passed_over.PassedOver.{PassedOver}
use Rattle.seatmelon_reading.specs.declared.passed_over.WhyPassed.{WhyPassed}
use Rattle.seatmelon_reading.specs.declared.passed_over.WhyPassed.TheVariants.{LeftOut, NotUdp, Tagged, Elsewhere}
use Rattle.seatmelon_reading.specs.declared.passed_over.WhyPassed.TheVariants.{Unreadable}

-- a packet of the recorded channels, and the record that holds it
pub record Seen : Type 0 where
  pub captured : Captured
  pub packet : Packet

abbrev pub seen_by : Captured → Result (Option Packet) Fault → Option Seen
seen_by r (Ok (Some packet)) = Some (record { captured = r; packet = packet })
seen_by r (Ok None) = None
seen_by r (Err fault) = None

-- the record of this number is left out
abbrev pub is_left_out : List ℕ → ℕ → Bool
is_left_out without number = list_any (nat_eq number) without

-- the packet of a record that isn't left out
abbrev pub seen_in : Parameters → List ℕ → Captured → Option Seen
seen_in p without r = if is_left_out without r.number then None else seen_by r (packet_in p.channels r.bytes)

-- why a record is passed over; none where it holds a packet of the recorded channels
abbrev pub why_passed : Parameters → List ℕ → Captured → Option WhyPassed
why_passed p without r = if is_left_out without r.number then Some LeftOut
    else why_by p.channels r.bytes (packet_in p.channels r.bytes)

-- the packets of these records, in order
abbrev pub all_seen : Parameters → List ℕ → List Captured → List Seen
all_seen p without records = filter_map (seen_in p without) records

abbrev pub is_before : Parameters → Seen → Bool
is_before p s = nat_lt s.captured.number p.first_record

abbrev pub is_inside : Parameters → Seen → Bool
is_inside p s = not (is_before p s) && nat_le s.captured.number p.last_record

abbrev pub is_behind : Parameters → Seen → Bool
is_behind p s = not (is_before p s) && not (nat_le s.captured.number p.last_record)

-- the packets of the connection: those in the window, by place
abbrev pub seen_inside : Parameters → List ℕ → List Captured → List Seen
seen_inside p without records = filter (is_inside p) (all_seen p without records)

-- record, time, channel and sender of a packet
abbrev pub sighting_of : Bool → Seen → Sighting
sighting_of zero s = record {
  «record» = s.captured.number;
  time = time_of zero s.captured;
  channel = s.packet.channel;
  sender = s.packet.side;
}

abbrev pub is_client : Side → Bool
is_client Client = true
is_client Server = false

-- the client sent the packet on this channel, or the server did
abbrev pub is_clients : ℕ → Seen → Bool
is_clients channel s = nat_eq s.packet.channel channel && is_client s.packet.side

abbrev pub is_servers : ℕ → Seen → Bool
is_servers channel s = nat_eq s.packet.channel channel && not (is_client s.packet.side)

-- how many of these packets each end sent on a channel
abbrev pub count_on : List Seen → ℕ → ChannelCount
count_on seen channel = record {
  client = length (filter (is_clients channel) seen);
  server = length (filter (is_servers channel) seen);
}

-- with one packet more of this end
abbrev pub count_with : ChannelCount → Side → ChannelCount
count_with count Client = record { client = count.client + 1; server = count.server }
count_with count Server = record { client = count.client; server = count.server + 1 }

-- the counts of the four channels that there can be
abbrev pub counts_of : List Seen → List ChannelCount
counts_of seen = map (count_on seen) (1 ∷ 2 ∷ 3 ∷ 4 ∷ [])

-- how many of these records are passed over for this reason
abbrev pub count_for : Parameters → List ℕ → List Captured → WhyPassed → ℕ
count_for p without records why = length (filter (λ r. is_for why (why_passed p without r)) records)

abbrev pub passed_over : Parameters → List ℕ → List Captured → PassedOver
passed_over p without records = record {
  left_out = count_for p without records LeftOut;
  not_udp = count_for p without records NotUdp;
  tagged = count_for p without records Tagged;
  elsewhere = count_for p without records Elsewhere;
  unreadable = count_for p without records Unreadable;
}

abbrev pub numbered_seen : Seen → NumberedPacket
numbered_seen s = record { number = s.captured.number; packet = s.packet }

-- a record stands in the window
abbrev pub stands_inside : Parameters → Captured → Bool
stands_inside p r = nat_le p.first_record r.number && nat_le r.number p.last_record

abbrev pub last_record_of : Bool → Captured → LastRecord
last_record_of zero r = record { number = r.number; time = time_of zero r }

-- the last of these records that stands in the window, if one does
abbrev pub last_inside : Parameters → Bool → List Captured → Option LastRecord
last_inside p zero records = option_map (last_record_of zero) (last_or None (filter (stands_inside p) records))

-- what is noted but for the packets in the window
pub record SameOutside (old new : Notes) : Type 0 where
  pub untimed : new.zero_is_no_time ≡ old.zero_is_no_time
  pub tape : new.tape ≡ old.tape
  pub read : new.records ≡ old.records
  pub before : new.before ≡ old.before
  pub behind : new.behind ≡ old.behind
  pub passed : new.passed ≡ old.passed
  pub times : new.times ≡ old.times
  pub last : new.last ≡ old.last

-- these are the notes of the records so far
pub record AreNotes (p : Parameters) (without : List ℕ) (records : List Captured) (n : Notes) : Type 0 where
  pub read : n.records ≡ length records
  pub packets : n.packets.items ≡ map (sighting_of n.zero_is_no_time) (seen_inside p without records)
  pub channels : n.channels ≡ counts_of (seen_inside p without records)
  pub before : n.before ≡ length (filter (is_before p) (all_seen p without records))
  pub behind : n.behind ≡ length (filter (is_behind p) (all_seen p without records))
  pub passed : n.passed ≡ passed_over p without records
  pub times : AreTimes n.zero_is_no_time records n.times
  pub last : n.last ≡ last_inside p n.zero_is_no_time records
  pub taped : n.tape.is_kept ≡ true → taped_in n.tape ≡ map numbered_seen (seen_inside p without records)
