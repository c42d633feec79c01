-- What is listed of packets that begin anywhere: the data that were captured, and which of them the packets show to be
-- surely taken.
use Rattle.std.specs.Prelude.{◌≡◌, ℕ, suc, ◌<◌, ◌≤◌, ◌^◌, true, List, Option, Some, None, IsSome, slice_get, length}
use Rattle.rasta_pcap.specs.declared.fault.Side.{Side}
use Rattle.rasta_udp.specs.Frame.{Packet}
use Rattle.rasta_pdu.specs.Params.{Parameters}
use Rattle.rasta_pdu.specs.Pdu.{is_kind, messages_in}
use Rattle.rasta_pdu.specs.declared.kind.Kind.TheVariants.{Data}
use Rattle.rasta_end.specs.State.{ahead_by}
use Rattle.rasta_check.specs.Capture.SentLists.{FirstCopy, IsCarried}
use Rattle.rasta_check.specs.Model.World.{other_side}
use Rattle.rasta_check.specs.Model.Middle.{Shows}
use Rattle.rasta_check.specs.declared.sights.Sight.{Sight}
use Rattle.rasta_check.specs.declared.sights.Confirmation.{Confirmation}
use Rattle.rasta_check.specs.declared.sights.ShownUnit.{ShownUnit}
use Rattle.rasta_check.specs.Middle.Sights.{AreSights, AreConfirmations}

-- ---- data and their proofs

-- the first PDU of a side with its SN
pub record IsFirst (p : Parameters) (packets : List Packet) (side : Side) (copy : FirstCopy) : Type 0 where
  pub carried : IsCarried p packets side copy
  pub first : (other : FirstCopy) → IsCarried p packets side other → other.pdu.safety.sn ≡ copy.pdu.safety.sn
      → copy.place ≤ other.place

-- where there is a proof of data, it is the place of a PDU of the peer that shows them; where there is none, no PDU
-- shows them
abbrev pub IsProofOf : Parameters → List Packet → Side → FirstCopy → Option ℕ → Type 0
IsProofOf p packets side data_copy None = (proof : FirstCopy) → Shows p packets side data_copy proof → ⊥
IsProofOf p packets side data_copy (Some place) =
    (proof : FirstCopy) × (proof.place ≡ place) × Shows p packets side data_copy proof

-- at this place lies a packet with the SN of these data; and where a PDU shows the data there is a proof that is no
-- later
pub record IsOfData (p : Parameters) (packets : List Packet) (side : Side) (data_copy : FirstCopy)
    (data_place : ℕ) (proof_place : Option ℕ) : Type 0 where
  pub copy : FirstCopy
  pub carried : IsCarried p packets side copy
  pub place : copy.place ≡ data_place
  pub same_sn : copy.pdu.safety.sn ≡ data_copy.pdu.safety.sn
  pub in_time : (proof : FirstCopy) → Shows p packets side data_copy proof
      → (place : ℕ) × (proof_place ≡ Some place) × (place ≤ proof.place)

-- this SN lies behind the other
abbrev pub LiesBehind : ℕ → ℕ → Type 0
LiesBehind sn other = (0 < ahead_by sn other) × (ahead_by sn other < 2 ^ 31)

-- ---- the list

-- the first data PDU of a side with its SN
pub record IsFirstData (p : Parameters) (packets : List Packet) (side : Side) (copy : FirstCopy) : Type 0 where
  pub first : IsFirst p packets side copy
  pub is_data : is_kind Data copy.pdu.safety.kind ≡ true

-- a unit that is listed: data of a side, the first of their SN, with their proof or without one
pub record IsListed (p : Parameters) (packets : List Packet) (side : Side) (u : ShownUnit) : Type 0 where
  pub data_copy : FirstCopy
  pub first : IsFirstData p packets side data_copy
  pub data_place : data_copy.place ≡ u.data_place
  pub messages : u.messages ≡ length (messages_in data_copy.pdu.safety.body)
  pub proof : IsProofOf p packets side data_copy u.proof_place

-- each unit is listed so; SNs rise, so none is listed twice; all captured data are listed, with a proof that is no
-- later than any PDU that shows them; and the units with a proof come first
pub record AreShown (p : Parameters) (packets : List Packet) (side : Side) (units : List ShownUnit) : Type 0 where
  pub listed : (i : ℕ) (u : ShownUnit) → slice_get units i ≡ Some u → IsListed p packets side u
  pub rising : (i : ℕ) (u next : ShownUnit) (a : IsListed p packets side u) (b : IsListed p packets side next)
      → slice_get units i ≡ Some u → slice_get units (suc i) ≡ Some next
      → LiesBehind b.data_copy.pdu.safety.sn a.data_copy.pdu.safety.sn
  pub all : (data_copy : FirstCopy) → IsCarried p packets side data_copy
      → is_kind Data data_copy.pdu.safety.kind ≡ true → (i : ℕ) × (u : ShownUnit) × (slice_get units i ≡ Some u)
      × IsOfData p packets side data_copy u.data_place u.proof_place
  pub proofs_first : (i j : ℕ) (u later : ShownUnit) → i < j → slice_get units i ≡ Some u
      → slice_get units j ≡ Some later → IsSome later.proof_place → IsSome u.proof_place

-- this list has what packets show whose sights of a side these are, and whose confirmations of its peer
abbrev pub IsListing : ℕ → List Sight → List Confirmation → List ShownUnit → Type 0
IsListing base sights confirmations units = (p : Parameters) (packets : List Packet) (side : Side)
    → AreSights p packets side base sights → AreConfirmations p packets (other_side side) confirmations
    → AreShown p packets side units
