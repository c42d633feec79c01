-- What a packet is among those of its end, by its number and its bytes.
use Rattle.std.specs.Prelude.{ℕ, ◌+◌, ◌-◌, ◌%◌, ◌^◌, Bool, true, false, not, ◌==◌, ◌&&◌, ◌||◌, nat_le, nat_lt, if◌then◌else◌, Option}
use Rattle.std.specs.Prelude.{Some, None, is_some, slice_get, unwrap_or}
use Rattle.seatmelon_connections.specs.declared.numbers.Latest.{Latest}
use Rattle.seatmelon_connections.specs.declared.numbers.Numbers.{Numbers}
use Rattle.seatmelon_connections.specs.declared.numbers.Remembered.{Remembered}
use Rattle.seatmelon_connections.specs.declared.numbers.Sighting.{Sighting}
use Rattle.seatmelon_connections.specs.declared.numbers.Sighting.TheVariants.{First, Late, Copy, DifferingCopy, TooOld}
use Rattle.seatmelon_connections.specs.declared.numbers.Offset.{Offset}
use Rattle.seatmelon_connections.specs.declared.numbers.Offset.TheVariants.{Expected, Ahead, Behind}
use Rattle.seatmelon_packets.specs.declared.packet.Packet.{Packet}

-- how far a number is ahead of an earlier one, where numbers of 32 bits wrap around
abbrev pub ahead_of : ℕ → ℕ → ℕ
ahead_of earlier number = (number + (2 ^ 32 - earlier)) % 2 ^ 32

-- where a number stands beside the expected one: less than half of the numbers ahead of it, or else behind it
abbrev pub offset_in : ℕ → ℕ → Offset
offset_in number expected =
    let ahead = ahead_of expected number in
    if ahead == 0 then Expected
    else if nat_lt ahead (2 ^ 31) then Ahead ahead
    else Behind (ahead_of number expected)

-- the number that an end is expected to send: before its first packet, that of any
abbrev pub expected_number : Numbers → Packet → ℕ
expected_number n p = unwrap_or n.expected p.number

-- what is remembered of a packet of this number, where this stands at its place
abbrev pub with_number : ℕ → Option (Option Remembered) → Option Remembered
with_number number (Some (Some r)) = if r.number == number then Some r else None
with_number number (Some None) = None
with_number number None = None

-- what is remembered of the packet of a number
abbrev pub remembered_at : Numbers → ℕ → Option Remembered
remembered_at n number = with_number number (slice_get n.remembered.items (number % 256))

-- a packet whose bytes have this hash, beside the remembered one of its number
abbrev pub compared : ℕ → Option Remembered → Sighting
compared hash None = Late
compared hash (Some r) = if hash == r.hash then Copy r.«record» else DifferingCopy r.«record»

-- a packet whose number stands so, beside the remembered one of its number
abbrev pub sighting_at : Offset → ℕ → Option Remembered → Sighting
sighting_at Expected hash r = First
sighting_at (Ahead missing) hash r = First
sighting_at (Behind distance) hash r = if nat_lt 256 distance then TooOld else compared hash r

-- what a packet is: the first of its number, if that is the expected one or ahead of it; too old, if it is behind by
-- more than 256; and else what it is beside the remembered one of its number
abbrev pub sighting_in : Numbers → Packet → Sighting
sighting_in n p = sighting_at (offset_in p.number (expected_number n p)) p.hash (remembered_at n p.number)

-- a packet repeats an earlier one byte for byte
abbrev pub is_copy : Sighting → Bool
is_copy (Copy first) = true
is_copy First = false
is_copy Late = false
is_copy (DifferingCopy first) = false
is_copy TooOld = false

-- a packet is too old to be compared
abbrev pub is_too_old : Sighting → Bool
is_too_old TooOld = true
is_too_old First = false
is_too_old Late = false
is_too_old (Copy first) = false
is_too_old (DifferingCopy first) = false

-- a packet of an end goes on with what it sent: it has the expected number, or repeats an earlier one byte for byte
abbrev pub goes_on : Numbers → Packet → Bool
goes_on n p = (p.number == expected_number n p) || is_copy (sighting_in n p)

-- a packet differs from an earlier one of its number
abbrev pub is_differing : Sighting → Bool
is_differing (DifferingCopy first) = true
is_differing First = false
is_differing Late = false
is_differing (Copy first) = false
is_differing TooOld = false

-- ---- the course of an end

abbrev pub is_ahead : Offset → Bool
is_ahead (Ahead n) = true
is_ahead Expected = false
is_ahead (Behind n) = false

abbrev pub is_behind : Offset → Bool
is_behind (Behind n) = true
is_behind Expected = false
is_behind (Ahead n) = false

-- a number is ahead of the expected one, or behind it, by no more than 256
abbrev pub is_near : Offset → Bool
is_near Expected = true
is_near (Ahead n) = nat_le n 256
is_near (Behind n) = nat_le n 256

-- how far the SN of a packet is ahead of its number: an end counts both up by one for each packet
abbrev pub lead_of : Packet → ℕ
lead_of p = ahead_of p.number p.sn

-- an end has sent a packet
abbrev pub has_sent : Numbers → Bool
has_sent n = is_some n.latest

-- a packet is near those of an end by its number, differs from none of that number, and its SN is as far ahead of its
-- number as that of the end's latest one
abbrev pub is_of_course : Numbers → Packet → Latest → Bool
is_of_course n p latest =
    is_near (offset_in p.number (expected_number n p))
    && (not (is_differing (sighting_in n p)) && (lead_of p == latest.lead))

-- an end can have sent a packet, by its latest one: the packet repeats one of the end, or is of its course
abbrev pub can_have_sent_by : Numbers → Packet → Option Latest → Bool
can_have_sent_by n p None = true
can_have_sent_by n p (Some latest) = is_copy (sighting_in n p) || is_of_course n p latest

-- an end can have sent a packet in the course of its others; if it sent none, any
abbrev pub can_have_sent : Numbers → Packet → Bool
can_have_sent n p = can_have_sent_by n p n.latest

-- a packet confirms an SN whose PDU has a number that is near the expected one
abbrev pub confirms_near : Packet → Option Latest → Option ℕ → Bool
confirms_near p (Some latest) (Some expected) = is_near (offset_in (ahead_of latest.lead p.cs) expected)
confirms_near p (Some latest) None = false
confirms_near p None expected = false

-- a packet of the other end can confirm one of an end
abbrev pub can_confirm : Numbers → Packet → Bool
can_confirm n p = confirms_near p n.latest n.expected

-- an end sent a packet before its latest one: the packet's number is behind, none of that number differs from it, its SN
-- is as far ahead of its number, and its TS isn't later
abbrev pub precedes_latest : Numbers → Packet → Option Latest → Bool
precedes_latest n p None = false
precedes_latest n p (Some latest) =
    is_behind (offset_in p.number (expected_number n p))
    && (not (is_differing (sighting_in n p)) && ((lead_of p == latest.lead) && not (is_ahead (offset_in p.ts latest.ts))))

abbrev pub precedes : Numbers → Packet → Bool
precedes n p = precedes_latest n p n.latest
