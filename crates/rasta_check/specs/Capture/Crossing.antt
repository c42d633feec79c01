-- What crossed between two ends: the packets, and the list that each side sent of them.
use Rattle.std.specs.Prelude.{◌≡◌, ℕ, ◌≤◌, List, [], length}
use Rattle.rasta_pcap.specs.declared.fault.Side.{Side}
use Rattle.rasta_pcap.specs.declared.fault.Side.TheVariants.{Client, Server}
use Rattle.rasta_udp.specs.Frame.{Packet}
use Rattle.rasta_pdu.specs.Params.{Parameters}
use Rattle.rasta_check.specs.Capture.SentLists.{CrossRecorded, FirstCopy, Sent}
use Rattle.rasta_check.specs.Model.World.{most_sent}
use Rattle.rasta_check.specs.Model.Theorem.{OfConnection, most_packets}

-- what crossed between ends of these parameters: the packets, and the sent list of each side
pub record Crossing : Type 0 where
  pub params : Parameters
  pub packets : List Packet
  pub client : List FirstCopy
  pub server : List FirstCopy

-- nothing crossed
abbrev pub nothing_crossed : Parameters → Crossing
nothing_crossed p = record { params = p; packets = []; client = []; server = [] }

abbrev pub sent_by : Crossing → Side → List FirstCopy
sent_by k Client = k.client
sent_by k Server = k.server

-- each side sent its list of these packets without a fault, and all are within the limits
pub record AreSent (p : Parameters) (packets : List Packet) (client server : List FirstCopy) : Type 0 where
  pub client_sent : Sent p packets Client client
  pub server_sent : Sent p packets Server server
  pub few_packets : length packets ≤ most_packets
  pub few_client : length client ≤ most_sent
  pub few_server : length server ≤ most_sent

-- the packets crossed on the channels of a connection, and the sides sent these lists
pub record IsCrossing (k : Crossing) : Type 0 where
  pub valid : OfConnection k.params
  pub recorded : CrossRecorded k.params k.packets
  pub sent : AreSent k.params k.packets k.client k.server

-- these are the sent lists of so many packets
abbrev pub AreSentLists : Parameters → ℕ → List FirstCopy → List FirstCopy → Type 0
AreSentLists p packets client server =
    (w : List Packet) × (length w ≡ packets)
    × IsCrossing (record { params = p; packets = w; client = client; server = server })
