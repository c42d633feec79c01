-- The lines of a run: one for each move, in order.
use Rattle.std.specs.Prelude.{ℕ, ◌+◌, List, [], ◌∷◌, ◌++◌, length, Option, Some, None, slice_get}
use Rattle.rasta_pcap.specs.declared.fault.Side.{Side}
use Rattle.rasta_udp.specs.Frame.{Packet}
use Rattle.rasta_end.specs.declared.why.Why.{Why}
use Rattle.rasta_end.specs.State.{wrapped}
use Rattle.rasta_check.specs.Capture.SentLists.{number_in_bytes}
use Rattle.rasta_check.specs.Model.World.{Station, World, Move, making, repeating, arriving, taking, waiting}
use Rattle.rasta_check.specs.Model.World.{station_of, other_side}
use Rattle.rasta_check.specs.Run.Moves.{Happened}

-- what a line tells, by redundancy numbers
pub data What : Type 0 where
  took : (number : ℕ) → What
  made : (number clock : ℕ) → Why → What
  copied : (number : ℕ) → What
  brought : (number : ℕ) → What
  waited : (clock : ℕ) → What

-- after so many packets, this side did this
pub record Line : Type 0 where
  pub level : ℕ
  pub side : Side
  pub what : What

-- the redundancy number in a packet's bytes
abbrev pub number_of : Packet → ℕ
number_of packet = number_in_bytes packet.payload

abbrev pub copy_lines : ℕ → Side → Option Packet → List Line
copy_lines level side None = []
copy_lines level side (Some old) = record { level = level; side = side; what = copied (number_of old) } ∷ []

-- the line of what a station does beside this peer, after these packets
abbrev pub lines_of_move : Side → Station → Station → List Packet → Move → List Line
lines_of_move side a peer crossed (making x why channel reserve check) =
    record {
      level = length crossed;
      side = side;
      what = made (wrapped (a.first_number + length a.state.made)) a.clock why;
    } ∷ []
lines_of_move side a peer crossed (repeating place channel) = copy_lines (length crossed) side (slice_get crossed place)
lines_of_move side a peer crossed (arriving position) =
    record { level = length crossed; side = side; what = brought (wrapped (peer.first_number + position)) } ∷ []
lines_of_move side a peer crossed (taking position) =
    record { level = length crossed; side = side; what = took (wrapped (peer.first_number + position)) } ∷ []
lines_of_move side a peer crossed (waiting clock) =
    record { level = length crossed; side = side; what = waited clock } ∷ []

-- the line of what a side does in a world
abbrev pub lines_in : World → Side → Move → List Line
lines_in w side move = lines_of_move side (station_of w side) (station_of w (other_side side)) w.crossed move

-- the lines of what happened
abbrev pub told : List Happened → List Line
told [] = []
told (h ∷ hs) = lines_in h.world h.side h.move ++ told hs
