-- What belongs to each side, and sides that are compared.
use Rattle.std.proofs.Common.{◌≡◌, true, false, not, arith}
use Rattle.rasta_check.proofs.Prelude.{Side, Client, Server}
use denote.Enum.Bare.{sameb}
use Rattle.rasta_pcap.specs.contracts.fault.Side.{the_type}

abbrev pub sided : (P : Side → Type 0) → P Client → P Server → (x : Side) → P x
sided P c s Client = c
sided P c s Server = s

pub same_side : (a b : Side) → not (sameb the_type a b) ≡ false → a ≡ b
same_side a b h = grind arith

pub sides_differ : (a b : Side) → not (sameb the_type a b) ≡ true → a ≡ b → ⊥
sides_differ a b h e = grind arith
