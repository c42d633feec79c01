-- The number that an end was to use next, and the packet that is told beside a refused one.
use Rattle.std.proofs.Common.{◌≡◌, ◌∙◌, ℕ, suc, ◌+◌, ◌%◌, ◌^◌, ◌≤◌, List, [], ◌∷◌, length, cond, true, nat_le, Option, None, Some, option_map, ap, refl, sym, subst, slice_get, arith}
use Rattle.std.proofs.lemmas.Bool.Decides.{nat_tests}
use Rattle.std.specs.List.{last_or}
use Rattle.byteorder.specs.Numbers.{little_number-reads_back}
use Rattle.rasta_pcap.specs.declared.fault.Side.{Side}
use Rattle.rasta_udp.specs.Frame.{Packet}
use Rattle.rasta_pdu.specs.Fields.{field_at}
use Rattle.rasta_pdu.specs.Params.{Parameters}
use Rattle.rasta_pdu.specs.Pdu.{IsRedundancyPdu, RedundancyPdu, little_at, redundancy_bytes}
use Rattle.rasta_check.proofs.Capture.Crossings.{length_spelled, list_of}
use Rattle.rasta_check.proofs.Capture.Positions.{number_found}
use Rattle.rasta_check.proofs.Lists.{slice_get_some}
use Rattle.rasta_check.specs.Capture.Crossing.{Crossing, IsCrossing, sent_by}
use Rattle.rasta_check.specs.Capture.Lists.{IsOrdered, position_of_number}
use Rattle.rasta_check.specs.Capture.SentLists.{FirstCopy, Spells}
use Rattle.seatmelon_reading.specs.Told.{HasBeenFound, IsFound, number_due}
use Rattle.seatmelon_reading.specs.declared.capture_refusal.Beside.{Beside}
use Rattle.seatmelon_reading.specs.declared.capture_refusal.Wanted.{Wanted}
use Rattle.seatmelon_reading.specs.declared.notes.Sighting.{Sighting}

abbrev pub a_number : ℕ → Option ℕ
a_number n = Some n

-- ---- the number that was due

last_at : (first : FirstCopy) (later : List FirstCopy) → last_or (Some first) later ≡ slice_get (first ∷ later) (length later)
last_at first [] = refl
last_at first (next ∷ later) = last_at next later

next_after : (first before last : ℕ) → last ≡ (first + before) % 2 ^ 32 → (last + 1) % 2 ^ 32 ≡ (first + suc before) % 2 ^ 32
next_after first before last e = omega arith

same_first : (a b : FirstCopy) → ◌≡◌ {A = Option FirstCopy} (Some a) (Some b) → a ≡ b
same_first a b e = cc

-- numbers rise by one, so that it is as far from the first as the list is long
pub number_due-some : (sent : List FirstCopy) (first : FirstCopy) → IsOrdered sent → slice_get sent 0 ≡ Some first → number_due sent ≡ Some ((first.pdu.number + length sent) % 2 ^ 32)
number_due-some [] first ordered e = absurd cc
number_due-some (head ∷ later) first ordered e =
    let last = slice_get_some (head ∷ later) (length later) (omega arith) in
    ap (option_map (λ (copy : FirstCopy). (copy.pdu.number + 1) % 2 ^ 32)) (last_at head later ∙ last.1)
    ∙ ap a_number (next_after head.pdu.number (length later) last.0.pdu.number (ordered.numbers (length later) head last.0 refl last.1))
    ∙ ap (λ (c : FirstCopy). a_number ((c.pdu.number + length (head ∷ later)) % 2 ^ 32)) (same_first head first e)

pub number_due-none : (sent : List FirstCopy) → slice_get sent 0 ≡ None → number_due sent ≡ None
number_due-none [] e = refl
number_due-none (head ∷ later) e = absurd cc

-- ---- the number of a datagram

-- what is spelled has its number
pub number_spelled : (p : Parameters) (side : Side) (d : RedundancyPdu) (bytes : List ℕ) → Spells p side d bytes → field_at 4 4 bytes ≡ Some d.number
unfolding redundancy_bytes
number_spelled p side d bytes s =
    let long : 8 ≤ length bytes = length_spelled p side d bytes s in
    let whole : nat_le 8 (length bytes) ≡ true = grind (arith, nat_tests, long) in
    let is : little_at 4 4 bytes ≡ d.number = ap (little_at 4 4) s.same ∙ little_number-reads_back 4 d.number [] s.fits.number in
    ap (λ b. cond b (a_number (little_at 4 4 bytes)) None) whole ∙ ap a_number is

-- ---- a first copy

-- the first copy with the number that is asked for
pub first_found : (k : Crossing) (sightings : List Sighting) (wanted : Wanted) (position : ℕ) (copy : FirstCopy) (made b : Beside) → ◌≡◌ {A = Option Beside} (Some made) (Some b)
    → IsCrossing k → position_of_number (sent_by k wanted.side) wanted.number ≡ Some position → slice_get (sent_by k wanted.side) position ≡ Some copy
    → slice_get sightings copy.place ≡ Some made.sighting → made.bytes.items ≡ redundancy_bytes k.params wanted.side copy.pdu → HasBeenFound k sightings wanted b
first_found k sightings wanted position copy made b e crossing found there noted held =
    let named = number_found (sent_by k wanted.side) wanted.number position found in
    let one : named.0 ≡ copy = same_first named.0 copy (sym named.1 ∙ there) in
    let carried = (list_of k crossing wanted.side).firsts position copy there in
    let same : made ≡ b = cc in
    subst (HasBeenFound k sightings wanted) same (record {
      place = copy.place;
      sighting = made.sighting;
      packet = carried.0;
      crossed = carried.1;
      noted = noted;
      found = record {
        sighted = refl;
        held = held ∙ sym carried.3.same;
        end = carried.2;
        number = number_spelled k.params wanted.side copy.pdu carried.0.payload carried.3 ∙ ap (λ (c : FirstCopy). a_number c.pdu.number) (sym one) ∙ ap a_number named.2;
      };
    })

-- ---- a later packet

-- one that spells a PDU with the number that is asked for
pub later_found : (p : Parameters) (wanted : Wanted) (sighting : Sighting) (packet : Packet) (d : RedundancyPdu) (made b : Beside) → ◌≡◌ {A = Option Beside} (Some made) (Some b)
    → packet.side ≡ wanted.side → IsRedundancyPdu p d × (packet.payload ≡ redundancy_bytes p packet.side d) → d.number ≡ wanted.number → made.sighting ≡ sighting
    → made.bytes.items ≡ packet.payload → IsFound wanted sighting packet b
later_found p wanted sighting packet d made b e side spelled number sighted held =
    let same : made ≡ b = cc in
    subst (IsFound wanted sighting packet) same (record {
      sighted = sighted;
      held = held;
      end = side;
      number = number_spelled p packet.side d packet.payload (record { fits = spelled.0; same = spelled.1 }) ∙ ap a_number number;
    })
