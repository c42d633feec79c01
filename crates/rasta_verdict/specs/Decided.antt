-- What the answer on a capture decides.
use Rattle.std.specs.Prelude.{◌≡◌, ◌⊎◌, ◌↔◌, ℕ, ◌<◌, List, ◌++◌, take, Ok}
use Rattle.rasta_pcap.specs.Fault.{fault_at, not_found}
use Rattle.rasta_udp.specs.Frame.{Packet}
use Rattle.rasta_pdu.specs.Params.{Parameters}
use Rattle.rasta_check.specs.Capture.Crossing.{Crossing}
use Rattle.rasta_check.specs.Capture.Reading.{crossing_of}
use Rattle.rasta_build.specs.Completeness.{CanCross}
use Rattle.rasta_line.specs.Texts.{refused_line}

-- The text refuses by 60 at a place, counted from 1: no run of two ends within the limits sends packets that begin with
-- those up to that place, and some run sends exactly those before it.
pub record IsUnexplained (p : Parameters) (packets : List Packet) (text : List ℕ) : Type 0 where
  pub place : ℕ
  pub told : text ≡ refused_line (fault_at not_found place)
  pub none : (rest : List Packet) → CanCross p (take place packets ++ rest) → ⊥
  pub exact : (n : ℕ) → CanCross p (take n packets) ↔ n < place

-- where a capture has no fault, it is explained, which alone has the status 0, or so refused
abbrev pub Decides : Parameters → List ℕ → List ℕ → ℕ → Type 0
Decides p file text status = (k : Crossing) → crossing_of p file ≡ Ok k → (status ≡ 0) ⊎ IsUnexplained p k.packets text
