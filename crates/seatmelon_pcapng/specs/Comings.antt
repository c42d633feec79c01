-- What comes next in a file, as far as the bytes tell that are there.
use Rattle.std.specs.Prelude.{◌≡◌, ◌<◌, ℕ, List, ◌++◌, length, Option}
use Rattle.seatmelon_pcapng.specs.Readings.{EndsWithin, State, next_of}
use Rattle.seatmelon_pcapng.specs.Readings.Next.{goes, refused}
use Rattle.seatmelon_pcapng.specs.declared.coming.Coming.{Coming}
use Rattle.seatmelon_pcapng.specs.declared.coming.Coming.TheVariants.{Block, Refused, Wanted}
use Rattle.seatmelon_pcapng.specs.declared.interface.Interface.{Interface}
use Rattle.seatmelon_pcapng.specs.declared.order.Order.{Order}
use Rattle.seatmelon_pcapng.specs.declared.refusal.Reason.TheVariants.{Cut}

-- a reading stands before these bytes
abbrev pub stands : Option Order → List Interface → ℕ → List ℕ → State
stands order interfaces at rest = record { order = order; interfaces = interfaces; at = at; rest = rest }

-- where some bytes are all of the rest, a block is cut
abbrev pub IsCut : Option Order → List Interface → List ℕ → Type 0
IsCut order interfaces bytes = (at : ℕ) → 0 < length bytes → next_of (stands order interfaces at bytes) ≡ refused Cut

-- this comes next before these bytes, whatever follows them; or there are fewer bytes than tell it
abbrev pub Tells : Option Order → List Interface → List ℕ → Coming → Type 0
Tells order interfaces bytes (Block front turn) =
    ((at : ℕ) (more : List ℕ) → next_of (stands order interfaces at (bytes ++ more)) ≡ goes front turn)
    × EndsWithin front.len turn
Tells order interfaces bytes (Refused reason) = (at : ℕ) (more : List ℕ)
    → next_of (stands order interfaces at (bytes ++ more)) ≡ refused reason
Tells order interfaces bytes (Wanted len) = (length bytes < len) × IsCut order interfaces bytes
