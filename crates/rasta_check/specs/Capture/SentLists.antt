-- What crossed past the tap, and the list of PDUs that each side sent.
use Rattle.std.specs.Prelude.{◌≡◌, ℕ, suc, ◌+◌, ◌-◌, ◌≤◌, ◌<◌, List, [], ◌∷◌, length, drop, Some, slice_get}
use Rattle.std.specs.Prelude.{slice_index, filter_map}
use Rattle.std.specs.Int.{from_le_bytes, w32}
use Rattle.std.specs.Option.{option_flatten}
use Rattle.std.specs.Result.{result_ok}
use Rattle.rasta_pcap.specs.declared.fault.Side.{Side}
use Rattle.rasta_udp.specs.Frame.{Packet, packet_in}
use Rattle.rasta_pdu.specs.Params.{Parameters}
use Rattle.rasta_pdu.specs.Pdu.{RedundancyPdu, IsRedundancyPdu, redundancy_bytes}
use Rattle.rasta_end.specs.State.{wrapped}

-- ---- the crossing list

-- the crossing list of a capture's records, up to the last of the window: the packets that those from its first on
-- hold, in order
abbrev pub crossing_list : Parameters → List (List ℕ) → List Packet
crossing_list p records = filter_map (λ (frame : List ℕ). option_flatten (result_ok (packet_in p.channels frame)))
    (drop (p.first_record - 1) records)

-- a recorded channel
abbrev pub IsRecorded : Parameters → ℕ → Type 0
IsRecorded p channel = (1 ≤ channel) × (channel ≤ length p.channels)

-- packets cross on recorded channels
abbrev pub CrossRecorded : Parameters → List Packet → Type 0
CrossRecorded p packets = (place : ℕ) (packet : Packet) → slice_get packets place ≡ Some packet
    → IsRecorded p packet.channel

-- ---- the sent list of a side

-- these bytes, sent by this side, spell this PDU
pub record Spells (p : Parameters) (side : Side) (pdu : RedundancyPdu) (bytes : List ℕ) : Type 0 where
  pub fits : IsRedundancyPdu p pdu
  pub same : bytes ≡ redundancy_bytes p side pdu

-- the number in the bytes of a redundancy number
abbrev pub number_in_bytes : List ℕ → ℕ
number_in_bytes bytes =
    from_le_bytes w32 (slice_index bytes 4 ∷ slice_index bytes 5 ∷ slice_index bytes 6 ∷ slice_index bytes 7 ∷ [])

-- the first packet of a redundancy number: its place among the packets, counted from 0, and its PDU
pub record FirstCopy : Type 0 where
  pub place : ℕ
  pub pdu : RedundancyPdu

-- a member of a sent list is a packet of this side, whose bytes spell its PDU
pub record IsCarried (p : Parameters) (packets : List Packet) (side : Side) (copy : FirstCopy) : Type 0 where
  pub packet : Packet
  pub there : slice_get packets copy.place ≡ Some packet
  pub of_side : packet.side ≡ side
  pub spelled : Spells p side copy.pdu packet.payload

-- a packet before this place, of this side, has this redundancy number
pub record IsKnown (p : Parameters) (packets : List Packet) (side : Side) (place number : ℕ) : Type 0 where
  pub earlier : FirstCopy
  pub carried : IsCarried p packets side earlier
  pub before : earlier.place < place
  pub same_number : earlier.pdu.number ≡ number

-- the sent list of a side: in the order of the packets, those of this side whose number no earlier packet of that side
-- has
pub record IsSentList (p : Parameters) (packets : List Packet) (side : Side) (sent : List FirstCopy) : Type 0 where
  pub carried : (i : ℕ) (copy : FirstCopy) → slice_get sent i ≡ Some copy → IsCarried p packets side copy
  pub in_order : (i : ℕ) (copy next : FirstCopy) → slice_get sent i ≡ Some copy → slice_get sent (suc i) ≡ Some next
      → copy.place < next.place
  pub first : (i : ℕ) (copy : FirstCopy) → slice_get sent i ≡ Some copy
      → IsKnown p packets side copy.place copy.pdu.number → ⊥
  pub all : (place : ℕ) (packet : Packet) (pdu : RedundancyPdu) → slice_get packets place ≡ Some packet
      → packet.side ≡ side → Spells p side pdu packet.payload
      → (IsKnown p packets side place pdu.number → ⊥)
      → (i : ℕ) × (copy : FirstCopy) × (slice_get sent i ≡ Some copy) × (copy.place ≡ place)

-- this side sent this list, and none of its packets has a fault: each spells the PDU of a member, which is its own or
-- crossed before it, byte for byte; and the numbers of the members rise by one modulo 2^32
pub record Sent (p : Parameters) (packets : List Packet) (side : Side) (sent : List FirstCopy) : Type 0 where
  pub list : IsSentList p packets side sent
  pub copies : (place : ℕ) (packet : Packet) → slice_get packets place ≡ Some packet → packet.side ≡ side
      → (i : ℕ) × (copy : FirstCopy) × (slice_get sent i ≡ Some copy) × (copy.place ≤ place)
      × Spells p side copy.pdu packet.payload
  pub numbers : (i : ℕ) (start copy : FirstCopy) → slice_get sent 0 ≡ Some start → slice_get sent i ≡ Some copy
      → copy.pdu.number ≡ wrapped (start.pdu.number + i)
