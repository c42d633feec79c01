-- How a connection goes on and ends, as far as its packets tell.
use Rattle.std.specs.Prelude.{ℕ, ◌+◌, ◌-◌, ◌^◌, ◌&&◌, Bool, true, false, not, List, length, filter, filter_map, fold, min}
use Rattle.std.specs.Prelude.{nat_eq, nat_lt, is_some, slice_get, Option, None, Some, option_map, if◌then◌else◌}
use Rattle.std.specs.Option.{option_or}
use Rattle.std.specs.List.{last_or}
use Rattle.rasta_pcap.specs.declared.fault.Side.{Side}
use Rattle.rasta_pcap.specs.declared.fault.Side.TheVariants.{Client, Server}
use Rattle.rasta_udp.specs.Frame.{Packet}
use Rattle.rasta_pdu.specs.Params.{Parameters}
use Rattle.rasta_pdu.specs.Pdu.{RedundancyPdu, SafetyBody, is_kind}
use Rattle.rasta_pdu.specs.declared.kind.Kind.TheVariants.{DisconnectionRequest}
use Rattle.rasta_end.specs.State.{ahead_by}
use Rattle.rasta_check.specs.Capture.Crossing.{Crossing}
use Rattle.rasta_check.specs.Capture.SentLists.{FirstCopy}
use Rattle.rasta_check.specs.Middle.Kept.{is_opening, offset_of}
use Rattle.seatmelon_middle.specs.Packets.{pdu_of}
use Rattle.seatmelon_middle.specs.declared.course.Course.{Course}
use Rattle.seatmelon_middle.specs.declared.course.Disconnection.{Disconnection}
use Rattle.seatmelon_middle.specs.declared.course.Latest.{Latest}

-- ---- disconnection requests

abbrev pub disconnection_by : Side → ℕ → SafetyBody → Option Disconnection
disconnection_by side place (SafetyBody.Bye detail reason) =
    Some (record { side = side; place = place; detail = detail; reason = reason })
disconnection_by side place (SafetyBody.Opening version sendmax reserved) = None
disconnection_by side place (SafetyBody.Messages payload) = None
disconnection_by side place SafetyBody.Empty = None

-- the disconnection request that a side's PDU at a place is, if it is one
abbrev pub disconnection_at : Side → ℕ → RedundancyPdu → Option Disconnection
disconnection_at side place pdu =
    if is_kind DisconnectionRequest pdu.safety.kind then disconnection_by side place pdu.safety.body else None

abbrev pub disconnection_in : Side → FirstCopy → Option Disconnection
disconnection_in side copy = disconnection_at side copy.place copy.pdu

-- the first disconnection request of a side that sent these first copies
abbrev pub first_disconnection : Side → List FirstCopy → Option Disconnection
first_disconnection side copies = slice_get (filter_map (disconnection_in side) copies) 0

-- of the first ones of both sides the one that crossed first
abbrev pub earlier_of : Option Disconnection → Option Disconnection → Option Disconnection
earlier_of None other = other
earlier_of (Some one) None = Some one
earlier_of (Some one) (Some other) = if nat_lt other.place one.place then Some other else Some one

-- the disconnection request that crossed first
abbrev pub ending_of : Crossing → Option Disconnection
ending_of k = earlier_of (first_disconnection Client k.client) (first_disconnection Server k.server)

-- ---- the PDUs of an end

abbrev pub latest_of : RedundancyPdu → Latest
latest_of pdu = record { number = pdu.number; lead = offset_of pdu; ts = pdu.safety.ts }

-- what the last one of these first copies says
abbrev pub latest_among : List FirstCopy → Option Latest
latest_among copies = option_map (λ (copy : FirstCopy). latest_of copy.pdu) (last_or None copies)

-- a PDU is new where its redundancy number lies ahead of that of its end's latest one, by less than half their range
abbrev pub is_new : Option Latest → RedundancyPdu → Bool
is_new None pdu = true
is_new (Some latest) pdu =
    nat_lt 0 (ahead_by pdu.number latest.number) && nat_lt (ahead_by pdu.number latest.number) (2 ^ 31)

-- a PDU is of a connection's course where its SN lies as far ahead of its redundancy number as that of its end's latest
-- one, and its TS isn't later
abbrev pub is_of_before : Latest → RedundancyPdu → Bool
is_of_before latest pdu =
    nat_eq (offset_of pdu) latest.lead && nat_lt (ahead_by latest.ts pdu.safety.ts) (2 ^ 31)

-- a PDU begins another connection where it opens one, and is no late copy of this one's opening
abbrev pub begins_another : Option Latest → RedundancyPdu → Bool
begins_another None pdu = false
begins_another (Some latest) pdu = is_opening pdu.safety.kind && not (is_of_before latest pdu)

-- ---- what crossed

-- a first copy crossed behind a place
abbrev pub is_behind : ℕ → FirstCopy → Bool
is_behind place copy = nat_lt place copy.place

-- how many first copies crossed behind a disconnection request
abbrev pub further_behind : Crossing → Option Disconnection → ℕ
further_behind k None = 0
further_behind k (Some d) = length (filter (is_behind d.place) k.client) + length (filter (is_behind d.place) k.server)

-- how many other packets did
abbrev pub repeated_behind : Crossing → Option Disconnection → ℕ
repeated_behind k None = 0
repeated_behind k (Some d) = length k.packets - (d.place + 1) - further_behind k (Some d)

-- the course by what crossed
abbrev pub crossed_course : Crossing → Course
crossed_course k = record {
  packets = length k.packets;
  client = latest_among k.client;
  server = latest_among k.server;
  ending = ending_of k;
  further = further_behind k (ending_of k);
  repeated = repeated_behind k (ending_of k);
  reopening = None;
  gaps = 0;
  last_gap = None;
}

-- ---- the packets behind what crossed

abbrev pub latest_in : Course → Side → Option Latest
latest_in c Client = c.client
latest_in c Server = c.server

-- as many as 64 bits count
abbrev pub one_more : ℕ → ℕ
one_more n = min (n + 1) (2 ^ 64 - 1)

abbrev pub one_more_if : Bool → ℕ → ℕ
one_more_if b n = if b then one_more n else n

-- a new PDU isn't the one after its end's latest one
abbrev pub skips : Option Latest → RedundancyPdu → Bool
skips None pdu = false
skips (Some latest) pdu = not (nat_eq (ahead_by pdu.number latest.number) 1)

abbrev pub with_latest : Course → Side → Latest → Course
with_latest c Client latest = record c { client = Some latest }
with_latest c Server latest = record c { server = Some latest }

-- a gap before a new PDU is counted
abbrev pub with_gap : Course → Side → RedundancyPdu → Course
with_gap c side pdu = record c {
  gaps = one_more_if (skips (latest_in c side) pdu) c.gaps;
  last_gap = if skips (latest_in c side) pdu then Some c.packets else c.last_gap;
}

-- the first disconnection request is kept, and new PDUs behind it are counted
abbrev pub with_ending : Course → Side → RedundancyPdu → Course
with_ending c side pdu = record c {
  ending = option_or c.ending (disconnection_at side c.packets pdu);
  further = one_more_if (is_some c.ending) c.further;
}

-- with a new PDU of a side
abbrev pub with_new : Course → Side → RedundancyPdu → Course
with_new c side pdu = with_latest (with_ending (with_gap c side pdu) side pdu) side (latest_of pdu)

-- with a PDU of a side that is none
abbrev pub with_repeated : Course → Course
with_repeated c = record c { repeated = one_more_if (is_some c.ending) c.repeated }

-- a PDU of a side is new, and of this connection
abbrev pub is_sign : Course → Side → RedundancyPdu → Bool
is_sign c side pdu =
    not (is_some c.reopening) && (not (begins_another (latest_in c side) pdu) && is_new (latest_in c side) pdu)

-- with a PDU of a side; from the first one on that begins another connection, PDUs are of that
abbrev pub with_pdu : Course → Side → RedundancyPdu → Course
with_pdu c side pdu =
    if is_some c.reopening then c
    else if begins_another (latest_in c side) pdu then record c { reopening = Some c.packets }
    else if is_new (latest_in c side) pdu then with_new c side pdu
    else with_repeated c

-- the next packet is counted
abbrev pub counted_on : Course → Course
counted_on c = record c { packets = min (c.packets + 1) (2 ^ 32 - 1) }

abbrev pub with_pdu_if : Course → Side → Option RedundancyPdu → Course
with_pdu_if c side None = c
with_pdu_if c side (Some pdu) = with_pdu c side pdu

abbrev pub is_sign_if : Course → Side → Option RedundancyPdu → Bool
is_sign_if c side None = false
is_sign_if c side (Some pdu) = is_sign c side pdu

-- with the next packet, which may spell a PDU
abbrev pub with_packet : Parameters → Course → Packet → Course
with_packet p c packet = counted_on (with_pdu_if c packet.side (pdu_of p packet))

-- the next packet is a sign of life of its end
abbrev pub is_sign_of_life : Parameters → Course → Packet → Bool
is_sign_of_life p c packet = is_sign_if c packet.side (pdu_of p packet)

-- the course by what crossed and by the packets behind it
abbrev pub course_of : Parameters → Crossing → List Packet → Course
course_of p k behind = fold (with_packet p) (crossed_course k) behind
