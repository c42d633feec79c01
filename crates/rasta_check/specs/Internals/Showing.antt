-- How the code takes in a packet, wherever in a connection.
use Rattle.std.specs.Prelude.{◌≡◌, ◌+◌, Bool, true, false, List, [], ◌∷◌, ◌++◌, length, Some}
use Rattle.rasta_pcap.specs.declared.fault.Side.{Side}
use Rattle.rasta_udp.specs.Frame.{Packet}
use Rattle.rasta_pdu.specs.Params.{Parameters}
use Rattle.rasta_pdu.specs.Pdu.{RedundancyPdu}
use Rattle.rasta_check.specs.declared.shown.Shown.{Shown}
use Rattle.rasta_check.specs.Capture.SentLists.{Spells}
use Rattle.rasta_check.specs.Middle.Kept.{HoldTogether}
use Rattle.rasta_check.specs.Middle.Seen.{AreKept, IsSeen}

-- a packet of this side spells this PDU, and no other
pub record SpellsOnly (p : Parameters) (side : Side) (pdu : RedundancyPdu) (k : Packet) : Type 0 where
  pub of_side : k.side ≡ side
  pub spelled : Spells p k.side pdu k.payload
  pub only : (other : RedundancyPdu) → Spells p k.side other k.payload → other ≡ pdu

-- the packet is taken in, or can't be held together with those before
abbrev pub AfterPacket : Shown → Packet → Bool → Shown → Type 0
AfterPacket old k true new = (new ≡ record old { client = new.client; server = new.server })
    × ((packets : List Packet) → old.packets ≡ length packets → AreKept old.params packets old
    → AreKept old.params (packets ++ k ∷ []) new)
AfterPacket old k false new = (new ≡ old)
    × ((packets : List Packet) → old.packets ≡ length packets → AreKept old.params packets old
    → HoldTogether old.params (packets ++ k ∷ []) k.side → ⊥)

-- one packet more is counted, which is held together with those before, or is the first that can't be
abbrev pub counted : Shown → Bool → Shown
counted shown true = record shown { packets = shown.packets + 1 }
counted shown false = record shown { packets = shown.packets + 1; contradiction = Some shown.packets }

-- whatever packets were taken in, this one is too
abbrev pub TakesIn : Shown → Packet → Shown → Type 0
TakesIn old k new = (p : Parameters) (packets : List Packet) → IsSeen p packets old
    → IsSeen p (packets ++ k ∷ []) new
