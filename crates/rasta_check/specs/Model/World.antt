-- Two ends, a network between them that loses, repeats, delays and reorders, and what may happen next.
use Rattle.std.specs.Prelude.{◌≡◌, ℕ, suc, ◌+◌, ◌<◌, ◌≤◌, List, [], ◌∷◌, ◌++◌, length, Some, slice_get, Contains}
use Rattle.rasta_pcap.specs.declared.fault.Side.{Side}
use Rattle.rasta_pcap.specs.declared.fault.Side.TheVariants.{Client, Server}
pub use Rattle.rasta_pcap.specs.Fault.{other_side}
use Rattle.rasta_udp.specs.Frame.{Packet}
use Rattle.rasta_pdu.specs.Params.{Parameters}
use Rattle.rasta_pdu.specs.Pdu.{SafetyPdu}
use Rattle.rasta_end.specs.declared.why.Why.{Why}
use Rattle.rasta_end.specs.State.{Made, EndState, wrapped}
use Rattle.rasta_end.specs.MakeRule.{Makes}
use Rattle.rasta_end.specs.TakeRule.{Takes}
use Rattle.rasta_end.specs.Starts.{start_of}
use Rattle.rasta_check.specs.Capture.SentLists.{Spells, IsRecorded}

-- an end with its clock and what the network brought it. Positions are those of the peer
pub record Station : Type 0 where
  pub state : EndState
  pub clock : ℕ
  pub arrived : List ℕ
  pub mark : ℕ  -- one more than the position that was taken last
  pub first_number : ℕ  -- the redundancy number of own position 0; it is free

-- both ends, and the packets that crossed so far
pub record World : Type 0 where
  pub client : Station
  pub server : Station
  pub crossed : List Packet

-- what one station does. Positions are those of the peer, and a place is that of a packet among those that crossed
pub data Move : Type 0 where
  making : SafetyPdu → Why → (channel reserve : ℕ) → List ℕ → Move
  repeating : (place channel : ℕ) → Move
  arriving : (position : ℕ) → Move
  taking : (position : ℕ) → Move
  waiting : (clock : ℕ) → Move

-- a station does this while its peer stands still: from what it was to what it is, and what has crossed then
pub data Moves (p : Parameters) (peer : Station) (crossed : List Packet) : Station → Move → Station → List Packet
    → Type 0 where
  -- it makes a PDU, and a datagram that spells it crosses, under the station's next redundancy number
  makes : {a : Station} (x : SafetyPdu) (why : Why) (after : EndState) (channel reserve : ℕ) (check bytes : List ℕ)
      → Makes p a.state x a.clock why after
      → Spells p a.state.side (record {
        reserve = reserve;
        number = wrapped (a.first_number + length a.state.made);
        safety = x;
        check_bytes = check;
      }) bytes
      → IsRecorded p channel
      → Moves p peer crossed a (making x why channel reserve check) (record a { state = after })
      (crossed ++ record { channel = channel; side = a.state.side; payload = bytes } ∷ [])
  -- its packet at this place crosses again
  repeats : {a : Station} (place channel : ℕ) (old : Packet)
      → slice_get crossed place ≡ Some old → old.side ≡ a.state.side → IsRecorded p channel
      → Moves p peer crossed a (repeating place channel) a (crossed ++ record old { channel = channel } ∷ [])
  -- the PDU of the peer at this position, which crossed, arrives
  arrives : {a : Station} (position : ℕ)
      → peer.state.base ≤ position → position < length peer.state.made
      → Moves p peer crossed a (arriving position) (record a { arrived = position ∷ a.arrived }) crossed
  -- it takes the PDU at this position, which arrived, above the position that it took last
  takes : {a : Station} (position : ℕ) (m : Made) (after : EndState)
      → Contains a.arrived position → a.mark ≤ position → slice_get peer.state.made position ≡ Some m
      → Takes p a.state m.pdu a.clock after
      → Moves p peer crossed a (taking position) (record a { state = after; mark = suc position }) crossed
  -- its clock rises, or stands still
  waits : {a : Station} (clock : ℕ) → a.clock ≤ clock
      → Moves p peer crossed a (waiting clock) (record a { clock = clock }) crossed

-- the station of a side, and its end
abbrev pub station_of : World → Side → Station
station_of w Client = w.client
station_of w Server = w.server

abbrev pub end_of : World → Side → EndState
end_of w side = (station_of w side).state

-- the world where the station of this side has become this one, and this has crossed
abbrev pub moved : World → Side → Station → List Packet → World
moved w Client a crossed = record w { client = a; crossed = crossed }
moved w Server a crossed = record w { server = a; crossed = crossed }

-- the station of one side moves, while that of the other stands still
pub data Step (p : Parameters) : World → World → Type 0 where
  side_moves : {w : World} {a : Station} {after : List Packet} {move : Move} (side : Side)
      → Moves p (station_of w (other_side side)) w.crossed (station_of w side) move a after
      → Step p w (moved w side a after)

-- a station at the start: nothing has arrived, and from a quiet point the peer's quiet PDU was taken
abbrev pub first_station : Parameters → Side → ℕ → Station
first_station p side number =
    record {
      state = start_of p side;
      clock = (start_of p side).clock;
      arrived = [];
      mark = (start_of p side).base;
      first_number = number;
    }

-- the world at the start: nothing has crossed
abbrev pub first_world : Parameters → ℕ → ℕ → World
first_world p m n = record { client = first_station p Client m; server = first_station p Server n; crossed = [] }

-- a run leads through these worlds to this one: it begins at the start, and a step joins each world to the next
pub data Reaches (p : Parameters) : List World → World → Type 0 where
  begins : (m n : ℕ) → Reaches p [] (first_world p m n)
  goes_on : {ws : List World} {w w' : World} → Reaches p ws w → Step p w w' → Reaches p (ws ++ w ∷ []) w'

-- the most PDUs that an end may have made since the start for their SNs to tell their order
abbrev pub most_ordered : ℕ
most_ordered = 2147483647

-- no end has made more than that
abbrev pub KeepsRange : Parameters → World → Type 0
KeepsRange p w = (side : Side) → length (end_of w side).made ≤ (start_of p side).base + most_ordered

-- the most PDUs that an end may have sent
abbrev pub most_sent : ℕ
most_sent = 1000000

-- no end has sent more than that
abbrev pub KeepsLimit : Parameters → World → Type 0
KeepsLimit p w = (side : Side) → length (end_of w side).made ≤ (start_of p side).base + most_sent
