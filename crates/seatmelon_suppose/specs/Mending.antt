-- What crossed together with PDUs that the tap is supposed to have missed.
use Rattle.std.specs.Prelude.{◌≡◌, ℕ, suc, List, [], ◌∷◌, ◌++◌, map, filter, nat_eq, Bool, Option, None, Some, Result}
use Rattle.std.specs.Prelude.{Ok}
use Rattle.rasta_pcap.specs.declared.fault.Fault.{Fault}
use Rattle.rasta_pdu.specs.Params.{Parameters}
use Rattle.rasta_check.specs.Capture.Building.{crossed_in}
use Rattle.rasta_check.specs.Capture.Crossing.{Crossing, nothing_crossed}
use Rattle.rasta_check.specs.Capture.Reading.{after_packet, then_crossing}
use Rattle.seatmelon_reading.specs.Tapes.{NumberedPacket}
use Rattle.seatmelon_suppose.specs.Spelling.{packet_supposed}
use Rattle.seatmelon_suppose.specs.declared.mending.Mending.{Mending}
use Rattle.seatmelon_suppose.specs.declared.supposed.Supposed.{Supposed}

-- a PDU is supposed just before this place
abbrev pub is_before : ℕ → Supposed → Bool
is_before place s = nat_eq s.before place

-- those that are supposed just before this place
abbrev pub supposed_at : List Supposed → ℕ → List Supposed
supposed_at supposed place = filter (is_before place) supposed

module _ (p : Parameters) (packets : List NumberedPacket) (supposed : List Supposed) where
  -- the packet at a place, and before it the PDUs that are supposed there
  abbrev pub mended_at : ℕ → NumberedPacket → List NumberedPacket
  mended_at place n = map (packet_supposed p packets n.number) (supposed_at supposed place) ++ n ∷ []

  -- the same of these packets, which stand from this place on
  abbrev pub mended_from : ℕ → List NumberedPacket → List NumberedPacket
  mended_from place [] = []
  mended_from place (n ∷ more) = mended_at place n ++ mended_from (suc place) more

-- what crossed: the captured packets, with each supposed PDU just before its place
abbrev pub mended : Parameters → List Supposed → List NumberedPacket → List NumberedPacket
mended p supposed packets = mended_from p packets supposed 0 packets

-- ---- where packets come from

abbrev pub no_place : Supposed → Option ℕ
no_place s = None

-- a captured packet has its place, a supposed one has none
abbrev pub origins_at : List Supposed → ℕ → List (Option ℕ)
origins_at supposed place = map no_place (supposed_at supposed place) ++ Some place ∷ []

-- those of so many packets, which stand from this place on
abbrev pub origins_from : List Supposed → ℕ → List NumberedPacket → List (Option ℕ)
origins_from supposed place [] = []
origins_from supposed place (n ∷ more) = origins_at supposed place ++ origins_from supposed (suc place) more

-- ---- how they cross

-- the crossing after these packets, or the first fault
abbrev pub after_packets : Crossing → List NumberedPacket → Result Crossing Fault
after_packets k [] = Ok k
after_packets k (n ∷ more) = then_crossing (after_packet k n.number n.packet) (λ next. after_packets next more)

-- ---- on the way

-- these packets, which come from there, have crossed in between
pub record Takes (old new : Mending) (more : List NumberedPacket) (from : List (Option ℕ)) : Type 0 where
  pub crossed : after_packets (crossed_in old.builder) more ≡ Ok (crossed_in new.builder)
  pub origins : new.origins.items ≡ old.origins.items ++ from

-- the first ones of all captured packets have crossed, together with the supposed PDUs
pub record IsMended (p : Parameters) (packets : List NumberedPacket) (supposed : List Supposed)
    (first : List NumberedPacket) (k : Crossing) (from : List (Option ℕ)) : Type 0 where
  pub crossed : after_packets (nothing_crossed p) (mended_from p packets supposed 0 first) ≡ Ok k
  pub origins : from ≡ origins_from supposed 0 first
