-- What is supposed of a capture.
use Rattle.std.specs.Prelude.{◌≡◌, ℕ, List, ◌++◌, All}
use Rattle.rasta_pcap.specs.declared.fault.Side.TheVariants.{Client, Server}
use Rattle.rasta_pdu.specs.Params.{Parameters}
use Rattle.seatmelon_reading.specs.Tapes.{NumberedPacket}
use Rattle.seatmelon_suppose.specs.Common.{IsCommon}
use Rattle.seatmelon_suppose.specs.Filling.{IsFilling}
use Rattle.seatmelon_suppose.specs.Sent.{IsSentBy}
use Rattle.seatmelon_suppose.specs.declared.filling.Filling.{Filling}
use Rattle.seatmelon_suppose.specs.declared.supposition.Supposition.{Supposition}

-- fillings of at most so many PDUs, which the checker has judged, stand behind those that there were
pub record AddsJudged (p : Parameters) (packets : List NumberedPacket) (most : ℕ) (old new : List Filling)
    : Type 0 where
  pub more : List Filling
  pub added : new ≡ old ++ more
  pub judged : All (IsFilling p packets most) more

-- the checker has judged each filling, of at most so many PDUs; of each end all messages are told that it sent by the
-- first one, and those are told as surely taken that are the first ones under each
pub record IsSupposition (p : Parameters) (packets : List NumberedPacket) (most : ℕ) (s : Supposition) : Type 0 where
  pub fillings : All (IsFilling p packets most) s.fillings.items
  pub client_sent : IsSentBy p packets Client s.fillings.items s.client.sent.items
  pub server_sent : IsSentBy p packets Server s.fillings.items s.server.sent.items
  pub client : IsCommon Client s.fillings.items s.client.taken.items
  pub server : IsCommon Server s.fillings.items s.server.taken.items
