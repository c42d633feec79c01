-- What is kept of the captured PDUs of a side, and when PDUs can't be held together.
use Rattle.std.specs.Prelude.{◌≡◌, ◌⊎◌, ℕ, ◌<◌, ◌≤◌, ◌^◌, Bool, true, false, List, [], Some, slice_get, length}
use Rattle.rasta_pcap.specs.declared.fault.Side.{Side}
use Rattle.rasta_udp.specs.Frame.{Packet}
use Rattle.rasta_pdu.specs.Params.{Parameters}
use Rattle.rasta_pdu.specs.Pdu.{RedundancyPdu, messages_in}
use Rattle.rasta_pdu.specs.declared.kind.Kind.{Kind}
use Rattle.rasta_pdu.specs.declared.kind.Kind.TheVariants.{ConnectionRequest, ConnectionResponse}
use Rattle.rasta_end.specs.State.{ahead_by}
use Rattle.rasta_check.specs.Capture.SentLists.{FirstCopy, IsCarried}
use Rattle.rasta_check.specs.declared.sights.Sight.{Sight}
use Rattle.rasta_check.specs.declared.sights.Confirmation.{Confirmation}
use Rattle.rasta_check.specs.Middle.Sights.{AreSights, AreConfirmations}

-- what is kept of the captured PDUs of a side: how far their SNs lie ahead of a base, and what they confirm; and how far
-- the SNs lie ahead of the redundancy numbers, and the TS of the PDU that was captured first
pub record KeptPdus : Type 0 where
  pub base : ℕ
  pub offset : ℕ
  pub first_ts : ℕ
  pub sights : List Sight
  pub confirmations : List Confirmation

-- nothing was captured of the side
abbrev pub nothing_kept : KeptPdus
nothing_kept = record { base = 0; offset = 0; first_ts = 0; sights = []; confirmations = [] }

-- these types alone open a connection
abbrev pub is_opening : Kind → Bool
is_opening ConnectionRequest = true
is_opening ConnectionResponse = true
is_opening _ = false

-- how far the SN of a PDU lies ahead of its redundancy number
abbrev pub offset_of : RedundancyPdu → ℕ
offset_of pdu = ahead_by pdu.safety.sn pdu.number

-- a PDU of a side that was captured first
pub record IsEarliest (p : Parameters) (packets : List Packet) (side : Side) (copy : FirstCopy) : Type 0 where
  pub carried : IsCarried p packets side copy
  pub earliest : (other : FirstCopy) → IsCarried p packets side other → copy.place ≤ other.place

-- a PDU with this SN lies less than 2^12 behind one with the other SN, or not behind it
abbrev pub IsRecent : ℕ → ℕ → Type 0
IsRecent sn earlier = (ahead_by earlier sn < 2 ^ 12) ⊎ (ahead_by sn earlier < 2 ^ 31)

-- this is kept of the PDUs of a side; if there are any, the SN of the one that was captured first lies half the range of
-- SNs ahead of the base
pub record IsKept (p : Parameters) (packets : List Packet) (side : Side) (kept : KeptPdus) : Type 0 where
  pub sights : AreSights p packets side kept.base kept.sights
  pub confirmations : AreConfirmations p packets side kept.confirmations
  pub middle : (kept.sights ≡ [])
      ⊎ ((i : ℕ) × (s : Sight) × (slice_get kept.sights i ≡ Some s) × (s.key ≡ 2 ^ 31)
      × ((j : ℕ) (t : Sight) → slice_get kept.sights j ≡ Some t → s.place ≤ t.place))
  pub recent : (copy other : FirstCopy) → IsCarried p packets side copy → IsCarried p packets side other
      → copy.place ≤ other.place → IsRecent other.pdu.safety.sn copy.pdu.safety.sn
  pub offset : (copy : FirstCopy) → IsCarried p packets side copy → offset_of copy.pdu ≡ kept.offset
  pub first_ts : (copy : FirstCopy) → IsEarliest p packets side copy → copy.pdu.safety.ts ≡ kept.first_ts
  pub opening : (copy : FirstCopy) → IsCarried p packets side copy → is_opening copy.pdu.safety.kind ≡ true
      → ahead_by kept.first_ts copy.pdu.safety.ts < 2 ^ 31

-- the captured PDUs of a side can be held together: those with one SN have one type and as many messages; there is an SN
-- from which all lie less than 2^31 ahead; none lies 2^12 or more SNs behind one that was captured before it; each SN
-- lies as far ahead of the redundancy number; and none opens a connection later, by its TS, than the one that was
-- captured first was made
pub record HoldTogether (p : Parameters) (packets : List Packet) (side : Side) : Type 0 where
  pub one_type : (copy other : FirstCopy) → IsCarried p packets side copy → IsCarried p packets side other
      → copy.pdu.safety.sn ≡ other.pdu.safety.sn → copy.pdu.safety.kind ≡ other.pdu.safety.kind
  pub one_count : (copy other : FirstCopy) → IsCarried p packets side copy → IsCarried p packets side other
      → copy.pdu.safety.sn ≡ other.pdu.safety.sn
      → length (messages_in copy.pdu.safety.body) ≡ length (messages_in other.pdu.safety.body)
  pub first : ℕ
  pub ahead : (copy : FirstCopy) → IsCarried p packets side copy → ahead_by copy.pdu.safety.sn first < 2 ^ 31
  pub recent : (copy other : FirstCopy) → IsCarried p packets side copy → IsCarried p packets side other
      → copy.place ≤ other.place → IsRecent other.pdu.safety.sn copy.pdu.safety.sn
  pub numbered : (copy other : FirstCopy) → IsCarried p packets side copy → IsCarried p packets side other
      → offset_of copy.pdu ≡ offset_of other.pdu
  pub opening : (copy earliest : FirstCopy) → IsCarried p packets side copy → IsEarliest p packets side earliest
      → is_opening copy.pdu.safety.kind ≡ true → ahead_by earliest.pdu.safety.ts copy.pdu.safety.ts < 2 ^ 31
