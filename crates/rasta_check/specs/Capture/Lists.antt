-- Sent lists as they are looked up: by position, by redundancy number and by place.
use Rattle.std.specs.Prelude.{◌≡◌, ℕ, zero, suc, ◌+◌, ◌<◌, List, map, Option, Some, None, slice_get, position, nat_eq}
use Rattle.rasta_pdu.specs.declared.pdu.Pdu.{Pdu}
use Rattle.rasta_pdu.specs.Pdu.{value_of}
use Rattle.rasta_end.specs.State.{wrapped}
use Rattle.rasta_check.specs.Capture.SentLists.{FirstCopy}

-- a place and the PDU that was read there, as they are handed out
abbrev pub copy_of : ℕ × Pdu → FirstCopy
copy_of x = record { place = x.0; pdu = value_of x.1 }

abbrev pub places_of : List FirstCopy → List ℕ
places_of sent = map (λ (c : FirstCopy). c.place) sent

abbrev pub numbers_of : List FirstCopy → List ℕ
numbers_of sent = map (λ (c : FirstCopy). c.pdu.number) sent

-- the position of the member with this redundancy number
abbrev pub position_of_number : List FirstCopy → ℕ → Option ℕ
position_of_number sent number = position (nat_eq number) (numbers_of sent)

-- the position of the member at this place
abbrev pub position_of_place : List FirstCopy → ℕ → Option ℕ
position_of_place sent place = position (nat_eq place) (places_of sent)

-- places rise, and numbers rise by one modulo 2^32
pub record IsOrdered (sent : List FirstCopy) : Type 0 where
  pub places : (i : ℕ) (copy next : FirstCopy) → slice_get sent i ≡ Some copy → slice_get sent (suc i) ≡ Some next
      → copy.place < next.place
  pub numbers : (i : ℕ) (start copy : FirstCopy) → slice_get sent 0 ≡ Some start → slice_get sent i ≡ Some copy
      → copy.pdu.number ≡ wrapped (start.pdu.number + i)

-- ---- a table of places: at each place one more than the position that stands there, or 0

abbrev pub position_in_mark : Option ℕ → Option ℕ
position_in_mark None = None
position_in_mark (Some zero) = None
position_in_mark (Some (suc position)) = Some position

-- the position that is marked at a place
abbrev pub marked : List ℕ → ℕ → Option ℕ
marked marks place = position_in_mark (slice_get marks place)

-- the first copies of a side as a map holds them, under their numbers
abbrev pub copies_in : List (ℕ × (ℕ × Pdu)) → List FirstCopy
copies_in entries = map (λ (e : ℕ × (ℕ × Pdu)). copy_of e.1) entries

-- these marks tell the position of each place
abbrev pub AreMarks : List FirstCopy → List ℕ → Type 0
AreMarks sent marks = (place : ℕ) → marked marks place ≡ position_of_place sent place
