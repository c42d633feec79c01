-- What is listed of packets that begin anywhere, beside their data: data that were sent again, and first sent before
-- the packets begin.
use Rattle.std.specs.Prelude.{◌≡◌, ℕ, suc, ◌≤◌, true, List, Some, slice_get, length}
use Rattle.rasta_pcap.specs.declared.fault.Side.{Side}
use Rattle.rasta_udp.specs.Frame.{Packet}
use Rattle.rasta_pdu.specs.Params.{Parameters}
use Rattle.rasta_pdu.specs.Pdu.{is_kind, messages_in}
use Rattle.rasta_pdu.specs.declared.kind.Kind.TheVariants.{RetransmittedData}
use Rattle.rasta_check.specs.Capture.SentLists.{FirstCopy, IsCarried}
use Rattle.rasta_check.specs.Model.World.{other_side}
use Rattle.rasta_check.specs.Model.Middle.{Settles, DataBehind}
use Rattle.rasta_check.specs.declared.sights.Sight.{Sight}
use Rattle.rasta_check.specs.declared.sights.Confirmation.{Confirmation}
use Rattle.rasta_check.specs.declared.resent.ResentUnit.{ResentUnit}
use Rattle.rasta_check.specs.Middle.Sights.{AreSights, AreConfirmations}
use Rattle.rasta_check.specs.Middle.Kept.{IsRecent}
use Rattle.rasta_check.specs.Middle.Shown.{IsFirst, IsProofOf, IsOfData, LiesBehind}

-- data that a PDU sends again were first sent before the packets begin: it is settled how many units lag behind there,
-- and up to there no more data than these were captured; and the PDU lies near the beginning of the packets, less than
-- 2^12 SNs ahead of each of its side: what is sent again later was more likely missed by the tap
pub record IsFirstSentBefore (p : Parameters) (packets : List Packet) (side : Side) (copy : FirstCopy) : Type 0 where
  pub is_resent : is_kind RetransmittedData copy.pdu.safety.kind ≡ true
  pub lag : ℕ
  pub settled : Settles p packets side copy.pdu.safety.sn lag
  pub few : (from count : ℕ) → DataBehind p packets side from copy.pdu.safety.sn count → count ≤ lag
  pub early : (other : FirstCopy) → IsCarried p packets side other → IsRecent other.pdu.safety.sn copy.pdu.safety.sn

-- a unit that is listed: such a PDU, the first with its SN, with the proof of its data or without one
pub record IsResentListed (p : Parameters) (packets : List Packet) (side : Side) (u : ResentUnit) : Type 0 where
  pub copy : FirstCopy
  pub first : IsFirst p packets side copy
  pub before : IsFirstSentBefore p packets side copy
  pub place : copy.place ≡ u.place
  pub messages : u.messages ≡ length (messages_in copy.pdu.safety.body)
  pub proof : IsProofOf p packets side copy u.proof_place

-- each unit is listed so; SNs rise, so none is listed twice; and all data that were so sent again are listed, with a
-- proof that is no later than any PDU that shows them
pub record AreResent (p : Parameters) (packets : List Packet) (side : Side) (units : List ResentUnit) : Type 0 where
  pub listed : (i : ℕ) (u : ResentUnit) → slice_get units i ≡ Some u → IsResentListed p packets side u
  pub rising : (i : ℕ) (u next : ResentUnit) (a : IsResentListed p packets side u)
      (b : IsResentListed p packets side next) → slice_get units i ≡ Some u → slice_get units (suc i) ≡ Some next
      → LiesBehind b.copy.pdu.safety.sn a.copy.pdu.safety.sn
  pub all : (copy : FirstCopy) → IsCarried p packets side copy → IsFirstSentBefore p packets side copy
      → (i : ℕ) × (u : ResentUnit) × (slice_get units i ≡ Some u)
      × IsOfData p packets side copy u.place u.proof_place

-- this list has what packets show whose sights of a side these are, and whose confirmations of its peer
abbrev pub IsResentListing : ℕ → List Sight → List Confirmation → List ResentUnit → Type 0
IsResentListing base sights confirmations units = (p : Parameters) (packets : List Packet) (side : Side)
    → AreSights p packets side base sights → AreConfirmations p packets (other_side side) confirmations
    → AreResent p packets side units
