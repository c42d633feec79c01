-- What packets that begin anywhere show of both sides.
use Rattle.std.specs.Prelude.{◌≡◌, ◌⊎◌, List, length, take}
use Rattle.rasta_pcap.specs.declared.fault.Side.{Side}
use Rattle.rasta_pcap.specs.declared.fault.Side.TheVariants.{Client, Server}
use Rattle.rasta_udp.specs.Frame.{Packet}
use Rattle.rasta_pdu.specs.Params.{Parameters}
use Rattle.rasta_check.specs.declared.shown.ShownLists.{ShownLists}
use Rattle.rasta_check.specs.Middle.Kept.{HoldTogether}
use Rattle.rasta_check.specs.Middle.Seen.{IsContradiction}
use Rattle.rasta_check.specs.Middle.Shown.{AreShown}
use Rattle.rasta_check.specs.Middle.Resent.{AreResent}

-- the PDUs of each side can be held together, and these are the lists of both sides
pub record AreShownLists (p : Parameters) (packets : List Packet) (lists : ShownLists) : Type 0 where
  pub held : (side : Side) → HoldTogether p packets side
  pub client : AreShown p packets Client lists.client.items
  pub server : AreShown p packets Server lists.server.items
  pub client_resent : AreResent p packets Client lists.client_resent.items
  pub server_resent : AreResent p packets Server lists.server_resent.items

-- these are the lists of all packets, or of those before the first that can't be held together with those before it
pub record AreListsOf (p : Parameters) (packets : List Packet) (lists : ShownLists) : Type 0 where
  pub all : (lists.packets ≡ length packets) ⊎ IsContradiction p packets lists.packets
  pub shown : AreShownLists p (take lists.packets packets) lists
