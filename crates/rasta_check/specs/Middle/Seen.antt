-- What is known of the packets of a connection that were taken in.
use Rattle.std.specs.Prelude.{◌≡◌, ℕ, suc, ◌<◌, List, length, take, Option, None, Some, IfSome}
use Rattle.rasta_pcap.specs.declared.fault.Side.{Side}
use Rattle.rasta_pcap.specs.declared.fault.Side.TheVariants.{Client, Server}
use Rattle.rasta_udp.specs.Frame.{Packet}
use Rattle.rasta_pdu.specs.Params.{Parameters}
use Rattle.rasta_check.specs.declared.shown.Shown.{Shown}
use Rattle.rasta_check.specs.Middle.Kept.{KeptPdus, IsKept, HoldTogether}

-- of both sides the packets before this place can be held together, and of one side those up to it can't
pub record IsContradiction (p : Parameters) (packets : List Packet) (place : ℕ) : Type 0 where
  pub within : place < length packets
  pub held : (side : Side) → HoldTogether p (take place packets) side
  pub broken : (side : Side) × (HoldTogether p (take (suc place) packets) side → ⊥)

abbrev pub kept_of_side : Shown → Side → KeptPdus
kept_of_side shown Client = shown.client
kept_of_side shown Server = shown.server

-- this is kept of both sides
abbrev pub AreKept : Parameters → List Packet → Shown → Type 0
AreKept p packets shown = (side : Side) → IsKept p packets side (kept_of_side shown side)

-- the packets before a contradiction; all of them where there is none
abbrev pub held_of : List Packet → Option ℕ → List Packet
held_of packets None = packets
held_of packets (Some place) = take place packets

-- these packets were taken in, by these parameters: what is kept is that of those before a contradiction
pub record IsSeen (p : Parameters) (packets : List Packet) (shown : Shown) : Type 0 where
  pub params : shown.params ≡ p
  pub count : shown.packets ≡ length packets
  pub contradiction : IfSome shown.contradiction (IsContradiction p packets)
  pub kept : AreKept p (held_of packets shown.contradiction) shown
