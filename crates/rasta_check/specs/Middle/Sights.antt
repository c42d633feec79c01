-- What is kept of the packets of a connection, wherever in it they begin: the PDUs of a side by their SNs, and what
-- each confirms.
use Rattle.std.specs.Prelude.{◌≡◌, ℕ, suc, ◌+◌, ◌<◌, ◌≤◌, ◌^◌, false, List, Some, slice_get, length}
use Rattle.rasta_pcap.specs.declared.fault.Side.{Side}
use Rattle.rasta_udp.specs.Frame.{Packet}
use Rattle.rasta_pdu.specs.Params.{Parameters}
use Rattle.rasta_pdu.specs.Pdu.{messages_in, is_kind}
use Rattle.rasta_pdu.specs.declared.kind.Kind.TheVariants.{ConnectionRequest}
use Rattle.rasta_end.specs.State.{ahead_by}
use Rattle.rasta_check.specs.Capture.SentLists.{FirstCopy, IsCarried}
use Rattle.rasta_check.specs.declared.sights.Sight.{Sight}
use Rattle.rasta_check.specs.declared.sights.Confirmation.{Confirmation}

-- these sights are those of what was captured of a side: one for each SN, of its first packet, in the order of the SNs,
-- of which none lies 2^31 or more behind another
pub record AreSights (p : Parameters) (packets : List Packet) (side : Side) (base : ℕ) (sights : List Sight)
    : Type 0 where
  pub sighted : (i : ℕ) (s : Sight) → slice_get sights i ≡ Some s
      → (copy : FirstCopy) × IsCarried p packets side copy × (s.place ≡ copy.place)
      × (s.kind ≡ copy.pdu.safety.kind) × (s.key ≡ ahead_by copy.pdu.safety.sn base)
      × (s.messages ≡ length (messages_in copy.pdu.safety.body))
  pub all : (copy : FirstCopy) → IsCarried p packets side copy
      → (i : ℕ) × (s : Sight) × (slice_get sights i ≡ Some s) × (s.place ≤ copy.place)
      × (s.kind ≡ copy.pdu.safety.kind) × (s.key ≡ ahead_by copy.pdu.safety.sn base)
      × (s.messages ≡ length (messages_in copy.pdu.safety.body))
  pub rising : (i : ℕ) (s next : Sight) → slice_get sights i ≡ Some s → slice_get sights (suc i) ≡ Some next
      → s.key < next.key
  pub above : (i : ℕ) (s : Sight) → slice_get sights i ≡ Some s → 0 < s.key
  pub near : (i j : ℕ) (s t : Sight) → slice_get sights i ≡ Some s → slice_get sights j ≡ Some t
      → s.key < t.key + 2 ^ 31

-- these are what the PDUs of a side confirm, in the order of their packets: each that isn't a connection request
-- confirms an SN, or repeats what an earlier one confirmed
pub record AreConfirmations (p : Parameters) (packets : List Packet) (side : Side)
    (confirmations : List Confirmation) : Type 0 where
  pub confirming : (i : ℕ) (c : Confirmation) → slice_get confirmations i ≡ Some c
      → (copy : FirstCopy) × IsCarried p packets side copy × (c.place ≡ copy.place)
      × (c.cs ≡ copy.pdu.safety.cs) × (is_kind ConnectionRequest copy.pdu.safety.kind ≡ false)
  pub all : (copy : FirstCopy) → IsCarried p packets side copy → is_kind ConnectionRequest copy.pdu.safety.kind ≡ false
      → (i : ℕ) × (c : Confirmation) × (slice_get confirmations i ≡ Some c) × (c.place ≤ copy.place)
      × (c.cs ≡ copy.pdu.safety.cs)
  pub rising : (i : ℕ) (c next : Confirmation) → slice_get confirmations i ≡ Some c
      → slice_get confirmations (suc i) ≡ Some next → c.place < next.place
