-- When the answer of a builder of scripts is complete: what some run sends is explained, and what isn't explained no
-- run sends.
use Rattle.std.specs.Prelude.{◌≡◌, ◌⊎◌, ℕ, ◌<◌, ◌≤◌, ◌^◌, ◌↔◌, List, ◌++◌, length, take, Result, Ok, Err}
use Rattle.rasta_pcap.specs.Fault.{fault_at, no_memory, not_found}
use Rattle.rasta_pcap.specs.declared.fault.Fault.{Fault}
use Rattle.rasta_pcap.specs.declared.fault.Side.TheVariants.{Client, Server}
use Rattle.rasta_udp.specs.Frame.{Packet}
use Rattle.rasta_pdu.specs.Params.{Parameters}
use Rattle.rasta_cert.specs.Certificate.{Scripts, IsCertificate}
use Rattle.rasta_check.specs.Capture.SentLists.{CrossRecorded, FirstCopy, Sent}
use Rattle.rasta_check.specs.Model.World.{World, Reaches, most_sent, KeepsLimit}
use Rattle.rasta_check.specs.Verdict.Report.{BothFit}
use Rattle.rasta_check.specs.Model.Theorem.{most_packets}
use Rattle.rasta_build.specs.Proposing.{proposal}

-- a run that leads here is within the limits: of packets, of PDUs an end, and of the clock at each end's last make
pub record IsBounded (p : Parameters) (w : World) : Type 0 where
  pub packets : length w.crossed ≤ most_packets
  pub pdus : KeepsLimit p w
  pub client_clock : w.client.state.clock < 2 ^ 64
  pub server_clock : w.server.state.clock < 2 ^ 64

-- some run within the limits sends exactly these packets
pub record CanCross (p : Parameters) (packets : List Packet) : Type 0 where
  pub worlds : List World
  pub last : World
  pub reached : Reaches p worlds last
  pub crossed : last.crossed ≡ packets
  pub bounded : IsBounded p last

-- memory aside, the answer is a certificate, and both of its scripts fit what crossed
abbrev pub IsExplained : Parameters → ℕ → List FirstCopy → List FirstCopy → Result Scripts Fault → Type 0
IsExplained p packets c s (Ok scripts) = IsCertificate scripts × BothFit p packets c s scripts
IsExplained p packets c s (Err fault) = fault ≡ no_memory

-- a certificate whose scripts both fit what crossed, or that nothing is found at a place
abbrev pub IsProposal : Parameters → ℕ → List FirstCopy → List FirstCopy → Result Scripts Fault → Type 0
IsProposal p packets c s (Ok scripts) = IsCertificate scripts × BothFit p packets c s scripts
IsProposal p packets c s (Err fault) = (place : ℕ) × (fault ≡ fault_at not_found place)

-- the answer that nothing is found at a place, counted from 1
abbrev pub IsNotFound : Result Scripts Fault → ℕ → Type 0
IsNotFound answer place = answer ≡ Err (fault_at not_found place)

-- out of memory, or what is proposed
abbrev pub IsAnswer : Parameters → List FirstCopy → List FirstCopy → Result Scripts Fault → Type 0
IsAnswer p c s answer = (answer ≡ Err no_memory) ⊎ (answer ≡ proposal p c s)

-- a complete answer on the client's sent list and the server's
pub record IsComplete (p : Parameters) (c s : List FirstCopy) (answer : Result Scripts Fault) : Type 0 where
  -- what a run within the limits sends is explained
  pub explains : (packets : List Packet) → Sent p packets Client c → Sent p packets Server s → CanCross p packets
      → IsExplained p (length packets) c s answer
  -- where nothing is found at a place, no run within the limits sends packets that begin with those up to it
  pub finds_none : (packets rest : List Packet) (place : ℕ) → Sent p packets Client c → Sent p packets Server s
      → IsNotFound answer place
      → CanCross p (take place packets ++ rest) → ⊥
  -- and the place is exact: some run within the limits sends exactly the first n packets where n is below the place,
  -- and none does otherwise
  pub exact : (packets : List Packet) (place n : ℕ) → CrossRecorded p packets → Sent p packets Client c
      → Sent p packets Server s
      → length packets ≤ most_packets → length c ≤ most_sent → length s ≤ most_sent → IsNotFound answer place
      → CanCross p (take n packets) ↔ n < place
