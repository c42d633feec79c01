-- The blocks of a section.
use Rattle.std.specs.Prelude.{ℕ, ◌+◌, ◌*◌, ◌-◌, ◌%◌, ◌^◌, min, ◌==◌, ◌||◌, ◌&&◌, not, Bool, List, [], ◌∷◌, ◌++◌, length}
use Rattle.std.specs.Prelude.{slice_get, nat_lt, nat_le, Option, None, Some, Result, Ok, Err, if◌then◌else◌}
use Rattle.seatmelon_cooked.specs.Forms.{kind_of, link_type_of}
use Rattle.seatmelon_cooked.specs.declared.form.Kind.{Kind}
use Rattle.seatmelon_pcapng.specs.Interfaces.{interface_in}
use Rattle.seatmelon_pcapng.specs.LinkTypes.{no_link_types}
use Rattle.seatmelon_pcapng.specs.Moments.{moment_at, no_moment}
use Rattle.seatmelon_pcapng.specs.Orders.{field, order_told}
use Rattle.seatmelon_pcapng.specs.declared.block.Found.{Found}
use Rattle.seatmelon_pcapng.specs.declared.block.Turn.{Turn}
use Rattle.seatmelon_pcapng.specs.declared.block.Turn.TheVariants as turns
use Rattle.seatmelon_pcapng.specs.declared.front.Front.{Front}
use Rattle.seatmelon_pcapng.specs.declared.interface.Interface.{Interface}
use Rattle.seatmelon_pcapng.specs.declared.link_types.LinkTypes.{LinkTypes}
use Rattle.seatmelon_pcapng.specs.declared.order.Order.{Order}
use Rattle.seatmelon_pcapng.specs.declared.order.Order.TheVariants.{Little}
use Rattle.seatmelon_pcapng.specs.declared.refusal.Reason.{Reason}
use Rattle.seatmelon_pcapng.specs.declared.refusal.Reason.TheVariants as reasons
use Rattle.seatmelon_pcapng.specs.declared.time.Moment.{Moment}

-- ---- types of blocks

abbrev pub section_header : ℕ
section_header = 0x0a0d0d0a

abbrev pub interface_description : ℕ
interface_description = 1

abbrev pub obsolete_packet : ℕ
obsolete_packet = 2

abbrev pub simple_packet : ℕ
simple_packet = 3

abbrev pub enhanced_packet : ℕ
enhanced_packet = 6

-- the fewest bytes of a block of this type
abbrev pub least_length : ℕ → ℕ
least_length kind =
    if kind == section_header then 28
    else if kind == interface_description then 20
    else if kind == obsolete_packet then 32
    else if kind == simple_packet then 16
    else if kind == enhanced_packet then 32
    else 12

-- the most bytes of a block
abbrev pub most_length : ℕ
most_length = 16777216

-- ---- the front of a block: its type and its length, in the byte order of its section

abbrev pub is_section_header : List ℕ → Bool
is_section_header bytes = field Little 4 0 bytes == section_header

abbrev pub or_else : Option Order → Reason → Result Order Reason
or_else None reason = Err reason
or_else (Some order) reason = Ok order

-- the byte order of the next block: a section header tells its own, and before the first one no block is read
abbrev pub order_of : Option Order → List ℕ → Result Order Reason
order_of known bytes = if is_section_header bytes then or_else (order_told bytes) reasons.ByteOrder
    else or_else known reasons.NotPcapng

abbrev pub kind_in : Order → List ℕ → ℕ
kind_in order bytes = field order 4 0 bytes

abbrev pub length_in : Order → List ℕ → ℕ
length_in order bytes = field order 4 4 bytes

abbrev pub front_by : Result Order Reason → List ℕ → Result Front Reason
front_by (Err reason) bytes = Err reason
front_by (Ok order) bytes =
    if not (length_in order bytes % 4 == 0)
    || nat_lt (length_in order bytes) (least_length (kind_in order bytes)) then Err reasons.Length
    else if nat_lt most_length (length_in order bytes) then Err reasons.TooLong
    else Ok (record { order = order; kind = kind_in order bytes; len = length_in order bytes })

-- what the first 12 bytes of a block say, or their first fault
abbrev pub front_of : Option Order → List ℕ → Result Front Reason
front_of known bytes = front_by (order_of known bytes) bytes

-- ---- what a block says

-- versions 1.0 and 1.2 are known
abbrev pub has_version : Order → List ℕ → Bool
has_version order block = field order 2 12 block == 1 && (field order 2 14 block == 0 || field order 2 14 block == 2)

abbrev pub ethernet : ℕ
ethernet = 1

-- the most bytes of a packet
abbrev pub most_captured : ℕ
most_captured = 262144

-- the most interfaces of a section
abbrev pub most_interfaces : ℕ
most_interfaces = 65536

-- a packet with this cooked header; without any, no bytes of it are told
abbrev pub packet_with : Option Kind → ℕ → Found → Turn
packet_with (Some kind) link_type found = turns.Cooked found kind
packet_with None link_type found = turns.Foreign (record found { end = found.start }) link_type

-- a packet of an interface that isn't one of Ethernet
abbrev pub packet_by : ℕ → Found → Turn
packet_by link_type found = packet_with (kind_of link_type) link_type found

-- a packet of this interface whose bytes stand there
abbrev pub packet_of : Interface → Found → Turn
packet_of i found = if i.link_type == ethernet then turns.Packet found else packet_by i.link_type found

-- a packet of which so many bytes stand there, in a block that has room for so many
abbrev pub packet_turn : Interface → Moment → ℕ → ℕ → ℕ → ℕ → Result Turn Reason
packet_turn i moment original captured start room =
    if nat_lt room captured then Err reasons.CapturedBeyond
    else if nat_lt most_captured captured then Err reasons.CapturedTooLong
    else Ok (packet_of i (record { moment = moment; original = original; start = start; end = start + captured }))

-- the time stamp of a packet, in the units of its interface
abbrev pub stamp_in : Order → List ℕ → ℕ
stamp_in order block = field order 4 12 block * 2 ^ 32 + field order 4 16 block

-- a packet with interface, time, and both lengths
abbrev pub full_turn : Order → Option Interface → List ℕ → Result Turn Reason
full_turn order None block = Err reasons.Interface
full_turn order (Some i) block =
    packet_turn i (moment_at i (stamp_in order block)) (field order 4 24 block) (field order 4 20 block) 28
    (length block - 32)

-- as much of a packet as its interface captures
abbrev pub bounded_by : ℕ → ℕ → ℕ
bounded_by snap original = if snap == 0 then original else min original snap

-- a packet of the first interface, without a time, with its original length alone
abbrev pub simple_turn : Order → Option Interface → List ℕ → Result Turn Reason
simple_turn order None block = Err reasons.Interface
simple_turn order (Some i) block =
    packet_turn i no_moment (field order 4 8 block) (bounded_by i.snap_length (field order 4 8 block)) 12
    (length block - 16)

-- what a block of this type says, behind these interfaces
abbrev pub turn_by : List Interface → Order → ℕ → List ℕ → Result Turn Reason
turn_by interfaces order kind block =
    if kind == section_header then (if has_version order block then Ok turns.Section else Err reasons.Version)
    else if kind == interface_description then
    (if nat_le most_interfaces (length interfaces) then Err reasons.TooManyInterfaces
    else Ok (turns.Interface (interface_in order block)))
    else if kind == enhanced_packet then full_turn order (slice_get interfaces (field order 4 8 block)) block
    else if kind == obsolete_packet then full_turn order (slice_get interfaces (field order 2 8 block)) block
    else if kind == simple_packet then simple_turn order (slice_get interfaces 0) block
    else Ok turns.Other

-- what a block says, if the length at its end is that at its front
abbrev pub turn_of : List Interface → Front → List ℕ → Result Turn Reason
turn_of interfaces front block =
    if field front.order 4 (front.len - 4) block == front.len then turn_by interfaces front.order front.kind block
    else Err reasons.Trailer

-- the interfaces behind a block
abbrev pub interfaces_after : List Interface → Turn → List Interface
interfaces_after interfaces turns.Section = []
interfaces_after interfaces (turns.Interface i) = interfaces ++ i ∷ []
interfaces_after interfaces (turns.Packet found) = interfaces
interfaces_after interfaces (turns.Cooked found kind) = interfaces
interfaces_after interfaces (turns.Foreign found link_type) = interfaces
interfaces_after interfaces turns.Other = interfaces

-- the link type that a packet shows: one whose packets are passed over, or one with cooked headers
abbrev pub link_types_of : Turn → LinkTypes
link_types_of turns.Section = no_link_types
link_types_of (turns.Interface i) = no_link_types
link_types_of (turns.Packet found) = no_link_types
link_types_of (turns.Cooked found kind) = record { other = None; cooked = Some (link_type_of kind) }
link_types_of (turns.Foreign found link_type) = record { other = Some link_type; cooked = None }
link_types_of turns.Other = no_link_types
