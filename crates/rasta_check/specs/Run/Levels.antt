-- The lines that two scripts tell, level by level.
use Rattle.std.specs.Prelude.{ℕ, zero, suc, List, [], ◌∷◌, ◌++◌, length, Option, Some, None, slice_get, filter_map}
use Rattle.std.specs.Prelude.{if◌then◌else◌, ◌==◌}
use Rattle.rasta_pcap.specs.declared.fault.Side.{Side}
use Rattle.rasta_pcap.specs.declared.fault.Side.TheVariants.{Client, Server}
use Rattle.rasta_udp.specs.Frame.{Packet}
use Rattle.rasta_end.specs.declared.why.Why.{Why}
use Rattle.rasta_cert.specs.declared.entry.Entry.{Entry}
use Rattle.rasta_cert.specs.declared.entry.Entry.TheVariants.{Take, Make}
use Rattle.rasta_check.specs.Capture.SentLists.{FirstCopy}
use Rattle.rasta_check.specs.Capture.Lists.{position_of_place}
use Rattle.rasta_check.specs.Run.Lines.{Line, took, made, copied, brought, waited, number_of}

-- ---- what a script says of a level

-- the redundancy number that an entry takes, where its slot is this one
abbrev pub taken_in : ℕ → Entry → Option ℕ
taken_in level (Take slot number) = if slot == level then Some number else None
taken_in level (Make index clock why) = None

-- the clock and the reason of a make, where its packet is at this place
abbrev pub made_in : ℕ → Entry → Option (ℕ × Why)
made_in place (Take slot number) = None
made_in place (Make index clock why) = if index == place then Some (clock, why) else None

-- the redundancy numbers that a script takes with this slot, in its order
unfoldable pub takes_at : ℕ → List Entry → List ℕ
takes_at level script = filter_map (taken_in level) script

-- the makes of the packet at this place; a script that fits has one for each first copy of its side
unfoldable pub makes_at : ℕ → List Entry → List (ℕ × Why)
makes_at place script = filter_map (made_in place) script

-- ---- its lines

abbrev pub brought_line : ℕ → Side → ℕ → Line
brought_line level side number = record { level = level; side = side; what = brought number }

abbrev pub take_line : ℕ → Side → ℕ → Line
take_line level side number = record { level = level; side = side; what = took number }

abbrev pub waited_line : ℕ → Side → ℕ → Line
waited_line level side clock = record { level = level; side = side; what = waited clock }

abbrev pub make_line : ℕ → Side → ℕ → ℕ × Why → Line
make_line place side number m = record { level = place; side = side; what = made number m.0 m.1 }

-- each take, right after its arrival
abbrev pub each_take : ℕ → Side → List ℕ → List Line
each_take level side [] = []
each_take level side (number ∷ numbers) =
    brought_line level side number ∷ take_line level side number ∷ each_take level side numbers

-- each make, right after the clock rises to the entry's
abbrev pub each_make : ℕ → Side → ℕ → List (ℕ × Why) → List Line
each_make place side number [] = []
each_make place side number (m ∷ ms) =
    waited_line place side m.0 ∷ make_line place side number m ∷ each_make place side number ms

-- the takes of a side with this slot
abbrev pub takes_lines : ℕ → Side → List Entry → List Line
takes_lines level side script = each_take level side (takes_at level script)

-- a packet at its place: a first copy, which has a position in the sent list of its side, is made, and any other is a
-- copy
abbrev pub crossed_lines : ℕ → Side → ℕ → Option ℕ → List (ℕ × Why) → List Line
crossed_lines place side number (Some position) makes = each_make place side number makes
crossed_lines place side number None makes = record { level = place; side = side; what = copied number } ∷ []

-- a packet of this side, by the side's sent list and script
abbrev pub side_lines : ℕ → Side → ℕ → List FirstCopy → List Entry → List Line
side_lines place side number own script =
    crossed_lines place side number (position_of_place own place) (makes_at place script)

abbrev pub by_side_lines : ℕ → ℕ → List FirstCopy → List FirstCopy → List Entry → List Entry → Side → List Line
by_side_lines place number c s cs ss Client = side_lines place Client number c cs
by_side_lines place number c s cs ss Server = side_lines place Server number s ss

-- the packet at a place, if there is one
abbrev pub packet_lines : ℕ → List FirstCopy → List FirstCopy → List Entry → List Entry → Option Packet → List Line
packet_lines place c s cs ss None = []
packet_lines place c s cs ss (Some packet) = by_side_lines place (number_of packet) c s cs ss packet.side

-- after so many packets: what the client takes, what the server takes, and the next packet
abbrev pub level_lines : List Packet → List FirstCopy → List FirstCopy → List Entry → List Entry → ℕ → List Line
level_lines packets c s cs ss level =
    takes_lines level Client cs
    ++ (takes_lines level Server ss ++ packet_lines level c s cs ss (slice_get packets level))

-- so many levels, from this one on
abbrev pub levels_lines : List Packet → List FirstCopy → List FirstCopy → List Entry → List Entry → ℕ → ℕ → List Line
levels_lines packets c s cs ss level zero = []
levels_lines packets c s cs ss level (suc left) =
    level_lines packets c s cs ss level ++ levels_lines packets c s cs ss (suc level) left

-- every level, from none to all of the packets
abbrev pub run_lines : List Packet → List FirstCopy → List FirstCopy → List Entry → List Entry → List Line
run_lines packets c s cs ss = levels_lines packets c s cs ss 0 (suc (length packets))
