-- The packets that a file holds, and the classic capture of them.
use Rattle.std.specs.Prelude.{ℕ, zero, suc, ◌+◌, ◌-◌, ◌%◌, ◌^◌, ◌≤◌, ◌==◌, List, [], ◌∷◌, ◌++◌, length, take, drop}
use Rattle.std.specs.Prelude.{slice_range, nat_lt, Option, None, Some, Result, Ok, Err, if◌then◌else◌, ⊤}
use Rattle.std.specs.List.{flat_map}
use Rattle.byteorder.specs.Endian.{little_bytes}
use Rattle.seatmelon_cooked.specs.Frames.{excess, frame_of}
use Rattle.seatmelon_cooked.specs.declared.form.Kind.{Kind}
use Rattle.seatmelon_pcapng.specs.Blocks.{front_of, interfaces_after, link_types_of, most_captured, turn_of}
use Rattle.seatmelon_pcapng.specs.LinkTypes.{first_of, no_link_types}
use Rattle.seatmelon_pcapng.specs.declared.block.Found.{Found}
use Rattle.seatmelon_pcapng.specs.declared.block.Turn.{Turn}
use Rattle.seatmelon_pcapng.specs.declared.block.Turn.TheVariants as turns
use Rattle.seatmelon_pcapng.specs.declared.front.Front.{Front}
use Rattle.seatmelon_pcapng.specs.declared.interface.Interface.{Interface}
use Rattle.seatmelon_pcapng.specs.declared.link_types.LinkTypes.{LinkTypes}
use Rattle.seatmelon_pcapng.specs.declared.order.Order.{Order}
use Rattle.seatmelon_pcapng.specs.declared.refusal.Reason.{Reason}
use Rattle.seatmelon_pcapng.specs.declared.refusal.Reason.TheVariants.{Cut}
use Rattle.seatmelon_pcapng.specs.declared.refusal.Refusal.{Refusal}
use Rattle.seatmelon_pcapng.specs.declared.remarks.Remarks.{Remarks}

-- what is told of a frame stands in the first so many bytes of its block, and isn't too long
abbrev pub StandsWithin : ℕ → Found → Type 0
StandsWithin len found = (found.start ≤ found.end) × (found.end ≤ len) × (found.end ≤ found.start + most_captured)

-- so it is with what a block says
abbrev pub EndsWithin : ℕ → Turn → Type 0
EndsWithin len turns.Section = ⊤
EndsWithin len (turns.Interface i) = ⊤
EndsWithin len (turns.Packet found) = StandsWithin len found
EndsWithin len (turns.Cooked found kind) = StandsWithin len found
EndsWithin len (turns.Foreign found link_type) = StandsWithin len found
EndsWithin len turns.Other = ⊤

-- ---- from block to block

-- where a reading stands: in a section of this byte order, once one has begun, with these interfaces, at this offset,
-- before these bytes
pub record State : Type 0 where
  pub order : Option Order
  pub interfaces : List Interface
  pub at : ℕ
  pub rest : List ℕ

-- what comes next: nothing, a block that is refused, or one that says something
pub data Next : Type 0 where
  ended : Next
  refused : Reason → Next
  goes : Front → Turn → Next

abbrev pub by_turn : Front → Result Turn Reason → Next
by_turn front (Err reason) = refused reason
by_turn front (Ok turn) = goes front turn

abbrev pub by_front : State → Result Front Reason → Next
by_front s (Err reason) = refused reason
by_front s (Ok front) = if nat_lt (length s.rest) front.len then refused Cut
    else by_turn front (turn_of s.interfaces front (take front.len s.rest))

abbrev pub next_of : State → Next
next_of s =
    if length s.rest == 0 then ended
    else if nat_lt (length s.rest) 12 then refused Cut
    else by_front s (front_of s.order s.rest)

-- the byte order behind a block: a section header tells another
abbrev pub order_after : Option Order → Front → Turn → Option Order
order_after known front turns.Section = Some front.order
order_after known front (turns.Interface i) = known
order_after known front (turns.Packet found) = known
order_after known front (turns.Cooked found kind) = known
order_after known front (turns.Foreign found link_type) = known
order_after known front turns.Other = known

-- offsets are told modulo 2^64
abbrev pub state_after : State → Next → State
state_after s ended = s
state_after s (refused reason) = s
state_after s (goes front turn) = record {
  order = order_after s.order front turn;
  interfaces = interfaces_after s.interfaces turn;
  at = (s.at + front.len) % 2 ^ 64;
  rest = drop front.len s.rest;
}

-- ---- packets

-- a packet: when it was captured, how long it was, and what is told of its frame
pub record Packet : Type 0 where
  pub seconds : ℕ
  pub nanoseconds : ℕ
  pub original : ℕ
  pub bytes : List ℕ

abbrev pub packet_in : List ℕ → Found → Packet
packet_in block found = record {
  seconds = found.moment.seconds;
  nanoseconds = found.moment.nanoseconds;
  original = found.original;
  bytes = slice_range block found.start found.end;
}

-- the same of a packet with a cooked header, as a frame of Ethernet, which is shorter
abbrev pub cooked_in : List ℕ → Found → Kind → Packet
cooked_in block found kind = record {
  seconds = found.moment.seconds;
  nanoseconds = found.moment.nanoseconds;
  original = found.original - excess kind;
  bytes = frame_of kind (slice_range block found.start found.end);
}

-- the packet of a block, if it is one of a packet
abbrev pub packets_in : List ℕ → Turn → List Packet
packets_in block turns.Section = []
packets_in block (turns.Interface i) = []
packets_in block (turns.Packet found) = packet_in block found ∷ []
packets_in block (turns.Cooked found kind) = cooked_in block found kind ∷ []
packets_in block (turns.Foreign found link_type) = packet_in block found ∷ []
packets_in block turns.Other = []

-- the packets that are read, the refusal that ends them, and the link types of the first of them that aren't frames of
-- Ethernet
pub record Reading : Type 0 where
  pub packets : List Packet
  pub refusal : Option Refusal
  pub met : LinkTypes

abbrev pub read_step : State → Next → Reading → Reading
read_step s ended more = record { packets = []; refusal = None; met = no_link_types }
read_step s (refused reason) more = record {
  packets = [];
  refusal = Some (record { reason = reason; at = s.at });
  met = no_link_types;
}
read_step s (goes front turn) more = record {
  packets = packets_in (take front.len s.rest) turn ++ more.packets;
  refusal = more.refusal;
  met = first_of (link_types_of turn) more.met;
}

-- at most so many blocks
unfoldable pub reading_from : ℕ → State → Reading
reading_from zero s = record { packets = []; refusal = None; met = no_link_types }
reading_from (suc left) s = read_step s (next_of s) (reading_from left (state_after s (next_of s)))

-- all that is left; each block has some bytes
abbrev pub reading_left : State → Reading
reading_left s = reading_from (length s.rest) s

abbrev pub at_begin : List ℕ → State
at_begin file = record { order = None; interfaces = []; at = 0; rest = file }

-- the packets of a file, in the order of their blocks, up to the first block that is refused
abbrev pub reading_of : List ℕ → Reading
reading_of file = reading_left (at_begin file)

-- what is told beside the packets
abbrev pub remarks_by : Option Refusal → LinkTypes → Remarks
remarks_by refusal met =
    record { refusal = refusal; other_link_type = met.other; cooked_link_type = met.cooked }

abbrev pub remarks_of : Reading → Remarks
remarks_of r = remarks_by r.refusal r.met

-- the same behind packets of which these link types are told
abbrev pub behind : LinkTypes → Remarks → Remarks
behind met remarks = remarks_by remarks.refusal
    (first_of met (record { other = remarks.other_link_type; cooked = remarks.cooked_link_type }))

-- ---- the classic capture

-- version 2.4, nanoseconds, the lowest byte first, no more than 262,144 bytes of a frame, and Ethernet
abbrev pub header_bytes : List ℕ
header_bytes =
    0x4d ∷ 0x3c ∷ 0xb2 ∷ 0xa1 ∷ 2 ∷ 0 ∷ 4 ∷ 0 ∷ 0 ∷ 0 ∷ 0 ∷ 0 ∷ 0 ∷ 0 ∷ 0 ∷ 0 ∷ 0 ∷ 0 ∷ 4 ∷ 0 ∷ 1 ∷ 0 ∷ 0 ∷ 0 ∷ []

-- the header of a record
abbrev pub front_bytes : Packet → List ℕ
front_bytes p =
    little_bytes 4 p.seconds
    ++ (little_bytes 4 p.nanoseconds ++ (little_bytes 4 (length p.bytes) ++ little_bytes 4 p.original))

-- the same by where its frame stands in its block
abbrev pub front_by : Found → List ℕ
front_by found = little_bytes 4 found.moment.seconds ++ (little_bytes 4 found.moment.nanoseconds
    ++ (little_bytes 4 (found.end - found.start) ++ little_bytes 4 found.original))

-- a record
abbrev pub packet_bytes : Packet → List ℕ
packet_bytes p = front_bytes p ++ p.bytes

-- a file that is refused ends inside its next record
abbrev pub mark_of : Option Refusal → List ℕ
mark_of None = []
mark_of (Some refusal) = 0 ∷ []

abbrev pub records_bytes : Reading → List ℕ
records_bytes r = flat_map packet_bytes r.packets ++ mark_of r.refusal

-- the classic capture of what was read
abbrev pub classic_of : Reading → List ℕ
classic_of r = header_bytes ++ records_bytes r
