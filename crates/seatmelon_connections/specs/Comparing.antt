-- A packet beside a connection: which end sent it, what it repeats or begins, and whether it is a late copy.
use Rattle.std.specs.Prelude.{◌≡◌, ℕ, Bool, false, not, ◌==◌, ◌&&◌, ◌||◌, if◌then◌else◌, Option, Some, None, is_none, is_some}
use Rattle.std.specs.Option.{option_map, option_map_or}
use Rattle.rasta_pdu.specs.declared.kind.Kind.{Kind}
use Rattle.rasta_pdu.specs.declared.kind.Kind.TheVariants.{ConnectionRequest, ConnectionResponse, RetransmissionRequest}
use Rattle.rasta_pdu.specs.declared.kind.Kind.TheVariants.{RetransmissionResponse, DisconnectionRequest, Heartbeat}
use Rattle.rasta_pdu.specs.declared.kind.Kind.TheVariants.{Data, RetransmittedData}
use Rattle.seatmelon_packets.specs.declared.packet.Packet.{Packet}
use Rattle.seatmelon_connections.specs.declared.channel.End.{End}
use Rattle.seatmelon_connections.specs.declared.channel.End.TheVariants.{First, Second}
use Rattle.seatmelon_connections.specs.declared.connection.Connection.{Connection}
use Rattle.seatmelon_connections.specs.declared.connection.Request.{Request}
use Rattle.seatmelon_connections.specs.declared.late_copies.Arrival.{Arrival}
use Rattle.seatmelon_connections.specs.declared.late_copies.Arrival.TheVariants.{InCourse, Late, LateBehindAnother}
use Rattle.seatmelon_connections.specs.declared.late_copies.LateCopies.{LateCopies}
use Rattle.seatmelon_connections.specs.declared.numbers.Numbers.{Numbers}
use Rattle.seatmelon_connections.specs.declared.numbers.Sighting.{Sighting}
use Rattle.seatmelon_connections.specs.Hosts.{knows_host, other_end}
use Rattle.seatmelon_connections.specs.LateCopies.{is_late, late_copies_after}
use Rattle.seatmelon_connections.specs.Noted.{has_ending_in, last_record_in, opened_before_in}
use Rattle.seatmelon_connections.specs.Sightings.{can_confirm, can_have_sent, goes_on, has_sent, is_copy, is_too_old, precedes, sighting_in}

-- ---- a packet beside a connection

-- the end that sent a packet, if it is between the connection's two ends
abbrev pub sender_in : Connection → Packet → Option End
sender_in c p =
    if (p.way.sender == c.first.id) && (p.way.receiver == c.second.id) then Some First
    else if (p.way.sender == c.second.id) && (p.way.receiver == c.first.id) then Some Second
    else None

abbrev pub numbers_of : Connection → End → Numbers
numbers_of c First = c.first.numbers
numbers_of c Second = c.second.numbers

-- what a packet between these ends is among those of its end
abbrev pub sighting_by : Connection → Packet → Option Sighting
sighting_by c p = option_map (λ end. sighting_in (numbers_of c end) p) (sender_in c p)

-- a packet repeats one of the connection byte for byte
abbrev pub is_copy_in : Connection → Packet → Bool
is_copy_in c p = option_map_or is_copy (sighting_by c p) false

-- a packet has the next number of its end in the connection, or repeats one of its end byte for byte
abbrev pub goes_on_with : Connection → Packet → Bool
goes_on_with c p = option_map_or (λ end. goes_on (numbers_of c end) p) (sender_in c p) false

-- ---- connection requests

-- what a connection request has
abbrev pub if_request : Kind → Request → Option Request
if_request ConnectionRequest r = Some r
if_request ConnectionResponse r = None
if_request RetransmissionRequest r = None
if_request RetransmissionResponse r = None
if_request DisconnectionRequest r = None
if_request Heartbeat r = None
if_request Data r = None
if_request RetransmittedData r = None

abbrev pub request_in : Packet → Option Request
request_in p = if_request p.kind (record { number = p.number; sn = p.sn; hash = p.hash })

-- the hash of a request's bytes
abbrev pub hash_in : Request → ℕ
hash_in r = r.hash

-- both requests have the same bytes, as far as their hashes tell
abbrev pub is_same_request : Request → Request → Bool
is_same_request r s = r.hash == s.hash

-- both requests have the same number and SN
abbrev pub has_same_numbers : Request → Request → Bool
has_same_numbers r s = (r.number == s.number) && (r.sn == s.sn)

-- a packet is the connection request that opened the connection, or a copy of it
abbrev pub is_opened_by : Connection → Packet → Bool
is_opened_by c p = option_map_or (λ r. option_map_or (is_same_request r) c.request false) (request_in p) false

-- a packet is a connection request from before the capture, where none was captured: its end sent it before what it sent
-- in the connection
abbrev pub is_late_opening : Connection → Packet → Bool
is_late_opening c p =
    (is_none c.request && is_some (request_in p))
    && option_map_or (λ end. precedes (numbers_of c end) p) (sender_in c p) false

-- a packet that opened no connection begins one after this: it is a connection request, and this one has ended or its
-- request has other numbers; if that wasn't captured, the packet is no late copy of it
abbrev pub is_followed_by : Connection → Packet → Bool
is_followed_by c p =
    option_map_or (λ r. has_ending_in c
    || not (option_map_or (has_same_numbers r) c.request (is_late_opening c p))) (request_in p) false

-- only late copies of the connection request were captured, also after the connection took a packet in
abbrev pub opened_before_with : Connection → Packet → Bool
opened_before_with c p = opened_before_in c || is_late_opening c p

-- ---- whether a packet can be of a connection

-- a packet can be of the course of an end: the end can have sent it, and if it sent nothing yet, the packet can confirm
-- one of the other end
abbrev pub can_be_of : Connection → End → Packet → Bool
can_be_of c end p =
    can_have_sent (numbers_of c end) p
    && (has_sent (numbers_of c end) || can_confirm (numbers_of c (other_end end)) p)

-- a packet that an end sent can be of the connection: by its hosts, as a copy of the opening, or by the course of its end
abbrev pub can_have_from : Connection → Packet → End → Bool
can_have_from c p end = knows_host c.channels.counts.items end p.way.route || (is_opened_by c p || can_be_of c end p)

-- a packet can be of the connection: it is between its ends, and one of its hosts has an address that its end has there,
-- or it repeats the opening, or it can be of the course of its end
abbrev pub can_have : Connection → Packet → Bool
can_have c p = option_map_or (can_have_from c p) (sender_in c p) false

-- a connection keeps its ends and its request
pub record HasSameOpening (old new : Connection) : Type 0 where
  pub first : new.first.id ≡ old.first.id
  pub second : new.second.id ≡ old.second.id
  pub request : new.request ≡ old.request

-- ---- behind a late copy of an opening

-- a packet belongs to a connection whose opening crossed late, and not to the last one between its ends: it repeats one
-- of the connection byte for byte, or is too old to be compared there and doesn't go on with the last one
abbrev pub is_claimed : Connection → Connection → Packet → Bool
is_claimed repeated last p =
    option_map_or (λ s. is_copy s || (is_too_old s && not (goes_on_with last p))) (sighting_by repeated p) false

-- ---- late copies

-- a packet that comes so is a late copy: of the opening, or of what is remembered
abbrev pub is_late_copy : Connection → Packet → Arrival → Bool
is_late_copy c p arrival = is_late arrival && (is_copy_in c p || is_opened_by c p)

-- the late copies of a connection after it took a packet in that came so
abbrev pub late_copies_with : Connection → Packet → Arrival → Option LateCopies
late_copies_with c p arrival =
    if is_late_copy c p arrival then Some (late_copies_after c.late_copies p.«record») else c.late_copies

-- the last record of a connection after it took a packet in that came so: what comes late while another connection
-- between the ends has begun leaves it
abbrev pub last_record_with : Connection → Packet → Arrival → ℕ
last_record_with c p InCourse = p.«record»
last_record_with c p Late = p.«record»
last_record_with c p LateBehindAnother = last_record_in c
