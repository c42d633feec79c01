-- Runs of two ends with what happened in them, move by move.
use Rattle.std.specs.Prelude.{List, [], ◌∷◌, ◌++◌, ℕ, map}
use Rattle.rasta_pcap.specs.declared.fault.Side.{Side}
use Rattle.rasta_udp.specs.Frame.{Packet}
use Rattle.rasta_pdu.specs.Params.{Parameters}
use Rattle.rasta_check.specs.Model.World.{Station, World, Move, Moves, station_of, other_side, moved, first_world}

-- what happened: in this world, this side did this
pub record Happened : Type 0 where
  pub world : World
  pub side : Side
  pub move : Move

-- this happened, one move after the other, from a start, and led to this world
pub data Runs (p : Parameters) : List Happened → World → Type 0 where
  starts : (m n : ℕ) → Runs p [] (first_world p m n)
  does : {happened : List Happened} {w : World} {a : Station} {after : List Packet} (side : Side) (move : Move)
      → Runs p happened w
      → Moves p (station_of w (other_side side)) w.crossed (station_of w side) move a after
      → Runs p (happened ++ record { world = w; side = side; move = move } ∷ []) (moved w side a after)

-- the worlds in which it happened
abbrev pub worlds_of : List Happened → List World
worlds_of happened = map (λ (h : Happened). h.world) happened
