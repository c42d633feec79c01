-- The theorem over runs: what two sent lists say of every run.
use Rattle.std.specs.Prelude.{◌≡◌, ℕ, suc, ◌+◌, ◌<◌, ◌≤◌, ◌^◌, List, [], ◌∷◌, ◌++◌, length, map, filter, Some, None}
use Rattle.std.specs.Prelude.{slice_get}
use Rattle.rasta_pcap.specs.declared.fault.Side.{Side}
use Rattle.rasta_pcap.specs.declared.fault.Side.TheVariants.{Client, Server}
use Rattle.rasta_udp.specs.Frame.{Packet}
use Rattle.rasta_pdu.specs.Params.{Parameters, AreParameters}
use Rattle.rasta_pdu.specs.Messages.{AreBytes}
use Rattle.rasta_pdu.specs.Pdu.{SafetyPdu, messages_in, is_kind}
use Rattle.rasta_end.specs.State.{Made, EndState}
use Rattle.rasta_end.specs.Starts.{start_of}
use Rattle.rasta_check.specs.Capture.SentLists.{FirstCopy, Sent}
use Rattle.rasta_check.specs.Capture.PacketFaults.{packet_fault}
use Rattle.rasta_check.specs.Model.World.{World, other_side, end_of, Reaches, most_sent, KeepsLimit, KeepsRange}
use Rattle.rasta_check.specs.Model.Taken.{pdus_made, all_made, TakenUnit, surely_taken}
use Rattle.rasta_check.specs.Model.Laws.{HandsUp}
use Rattle.rasta_pdu.specs.declared.kind.Kind.TheVariants.{Data}

-- parameters that a connection can have; its ids have 32 bits
pub record OfConnection (p : Parameters) : Type 0 where
  pub valid : AreParameters p
  pub client_id : p.client_id < 2 ^ 32
  pub server_id : p.server_id < 2 ^ 32

-- the most packets of a connection that are judged
abbrev pub most_packets : ℕ
most_packets = 16000000

-- v is the world of a run to which the packet at this place is appended, and `next` the world then
pub record Appends (ws : List World) (w : World) (place : ℕ) (v next : World) : Type 0 where
  pub i : ℕ
  pub here : slice_get (ws ++ w ∷ []) i ≡ Some v
  pub there : slice_get (ws ++ w ∷ []) (suc i) ≡ Some next
  pub before : length v.crossed ≡ place
  pub after : length next.crossed ≡ suc place

-- ---- 1. sent lists

-- what this side made since the start is its sent list, and each PDU was made where its first copy crossed
pub record IsMade (p : Parameters) (ws : List World) (w : World) (side : Side) (sent : List FirstCopy) : Type 0 where
  pub list : Sent p w.crossed side sent
  pub made : pdus_made (end_of w side).made ≡ all_made p side sent
  pub there : (j : ℕ) (copy : FirstCopy) (v next : World) → slice_get sent j ≡ Some copy
      → Appends ws w copy.place v next
      → (length (end_of v side).made ≡ (start_of p side).base + j)
      × (length (end_of next side).made ≡ suc ((start_of p side).base + j))

-- in a run within the limits both sides have sent lists, which are what they made, at the places where it first
-- crossed; each packet is appended to one of the worlds; a run with sent lists within the limits is within them; and
-- packets have one sent list of fewer than 2^32 PDUs a side
pub record SentLists (p : Parameters) : Type 0 where
  pub made : (ws : List World) (w : World) (side : Side) → Reaches p ws w → KeepsRange p w
      → (sent : List FirstCopy) × IsMade p ws w side sent
  pub appended : (ws : List World) (w : World) (place : ℕ) → Reaches p ws w → place < length w.crossed
      → (v next : World) × Appends ws w place v next
  pub within : (ws : List World) (w : World) (c s : List FirstCopy) → Reaches p ws w
      → Sent p w.crossed Client c → Sent p w.crossed Server s
      → length c ≤ most_sent → length s ≤ most_sent → KeepsLimit p w
  pub one_list : (packets : List Packet) (side : Side) (sent others : List FirstCopy)
      → Sent p packets side sent → Sent p packets side others → length sent < 2 ^ 32 → sent ≡ others

-- ---- 2. definite faults

-- after packets of which its side sent a list within the limits, no packet of a run has a fault; and a sent list goes
-- on after a packet exactly where it has none
pub record Definite (p : Parameters) : Type 0 where
  pub in_runs : (ws : List World) (w : World) (packets rest : List Packet) (packet : Packet) (sent : List FirstCopy)
      → Reaches p ws w → w.crossed ≡ packets ++ packet ∷ rest
      → Sent p packets packet.side sent → length sent ≤ most_sent → packet_fault p sent packet ≡ None
  pub goes_on : (packets : List Packet) (packet : Packet) (sent : List FirstCopy) → AreBytes packet.payload
      → Sent p packets packet.side sent → length sent ≤ most_sent → packet_fault p sent packet ≡ None
      → (more : List FirstCopy) × Sent p (packets ++ packet ∷ []) packet.side more
  pub only : (packets rest : List Packet) (packet : Packet) (sent more : List FirstCopy) → AreBytes packet.payload
      → Sent p packets packet.side sent → length sent ≤ most_sent → Sent p (packets ++ packet ∷ rest) packet.side more
      → packet_fault p sent packet ≡ None

-- ---- 3. necessity

-- what an end handed up: the units 0, 1, .. of its peer, each once and in order, with the messages of the data PDUs of
-- these numbers
pub record HandsUpUnits (e peer : EndState) : Type 0 where
  pub labels : HandsUp e peer
  pub messages : (i : ℕ) (x : SafetyPdu) → slice_get e.handed_pdus i ≡ Some x
      → (m : Made) × (slice_get (filter (λ (n : Made). is_kind Data n.pdu.kind) peer.made) i ≡ Some m)
      × (messages_in x.body ≡ messages_in m.pdu.body)

-- the units that an end handed up, in order: the messages of each
abbrev pub units_handed : EndState → List (List (List ℕ))
units_handed e = map (λ (x : SafetyPdu). messages_in x.body) e.handed_pdus

-- the units that are listed
abbrev pub units_listed : List TakenUnit → List (List (List ℕ))
units_listed units = map (λ (u : TakenUnit). u.messages) units

-- the unit of this number has been handed up with these messages
abbrev pub HasHandedUp : EndState → ℕ → List (List ℕ) → Type 0
HasHandedUp e unit messages = slice_get (units_handed e) unit ≡ Some messages

-- in this run the other side handed up units in order; those that are listed come first; and each was handed up already
-- in the world to which the packet at its proof place is appended
pub record HandsUpTaken (p : Parameters) (ws : List World) (w : World) (side : Side)
    (own peer : List FirstCopy) : Type 0 where
  pub in_order : HandsUpUnits (end_of w (other_side side)) (end_of w side)
  pub first : (rest : List (List (List ℕ)))
      × (units_handed (end_of w (other_side side)) ≡ units_listed (surely_taken p side own peer) ++ rest)
  pub in_time : (i : ℕ) (u : TakenUnit) (v next : World) → slice_get (surely_taken p side own peer) i ≡ Some u
      → Appends ws w u.proof_place v next → HasHandedUp (end_of v (other_side side)) i u.messages

-- so it is in every run that sends these packets, within the limits
abbrev pub Necessity : Parameters → Type 0
Necessity p =
    (ws : List World) (w : World) (side : Side) (own peer : List FirstCopy) → Reaches p ws w
    → Sent p w.crossed side own → Sent p w.crossed (other_side side) peer
    → length own ≤ most_sent → length peer ≤ most_sent → HandsUpTaken p ws w side own peer
