-- What a store keeps at its positions and places.
use Rattle.std.proofs.Common.{◌≡◌, ℕ, List, [], ◌∷◌, map, Bool, false, nat_eq, Option, Some, None, slice_get, refl, ap, sym, ◌∙◌, subst, arith, if◌then◌else◌}
use Rattle.rasta_check.proofs.Prelude.{option_map, bytes_eq, nat_tests, bytes_eq-Decides, length-map, slice_get_past, Side, number_gap, Packet, Parameters, RedundancyPdu, Pdu, value_of, copy_of}
use Rattle.rasta_check.proofs.Prelude.{redundancy_bytes, decode_of, StoredPacket, FirstCopy, Spells, copy_with, is_next_number, packet_fault, Kept, KeptDatagrams, kept_by}
use Rattle.rasta_check.proofs.Prelude.{position_of_number, position_of_place, Crossing, sent_by, sent_after, IsStore, crossing_by, get_mapped, slice_get_some, map_at}
use Rattle.std.specs.Prelude.{Ok}
use Rattle.std.specs.List.{position_or_len}
use Rattle.std.proofs.lemmas.Option.{cond_some}
use Rattle.rasta_pcap.specs.Fault.{copy_differs}
use Rattle.rasta_check.specs.Capture.Lists.{numbers_of}
use Rattle.rasta_check.specs.Internals.Stored.{bytes_of, copy_in, packet_by}
use Rattle.rasta_check.proofs.Capture.Crossings.{few_of, known_by, list_of}
use Rattle.rasta_check.proofs.Capture.SameBytes.{same_found, same_length}
use Rattle.rasta_check.proofs.Sides.{same_side, sides_differ}
use Rattle.rasta_check.proofs.Capture.Positions.{far, near, number_found, number_once, place_missing, place_named}
use Rattle.rasta_check.proofs.Capture.FaultlessLists.{ordered, read_once}

-- ---- a datagram and the first copy that it spells

pub record IsFirst (p : Parameters) (side : Side) (x : Kept) (own : List FirstCopy) (position : ℕ) : Type 0 where
  pub pdu : RedundancyPdu
  pub reads : decode_of p side x.bytes ≡ Ok pdu
  pub spelled : Spells p side pdu x.bytes
  pub there : slice_get own position ≡ Some (record { place = x.place; pdu = pdu })

module _ (p : Parameters) (d : KeptDatagrams) (packets : List StoredPacket) where
  abbrev whole : Crossing
  whole = crossing_by p d packets

  pub sent_is : (side : Side) → sent_by whole side ≡ map (copy_in p side) (kept_by d side)
  sent_is side = grind arith

  pub kept_at : IsStore p d packets → (side : Side) (position : ℕ) (x : Kept) → slice_get (kept_by d side) position ≡ Some x
      → IsFirst p side x (sent_by whole side) position
  kept_at st side position x g = grind (arith, sent_is, map_at)

  -- a packet's payload is that of its first copy
  pub payload_at : (place : ℕ) (x : StoredPacket) (y : Kept) → slice_get packets place ≡ Some x → slice_get (kept_by d x.side) x.position ≡ Some y
      → slice_get whole.packets place ≡ Some (record { channel = x.channel; side = x.side; payload = y.bytes })
  payload_at place x y g h = grind (arith, map_at)

-- a packet as the code reads it
pub packet_read : (packets xs : List StoredPacket) (place : ℕ) (o q : Option StoredPacket) → xs ≡ packets → o ≡ slice_get xs place → o ≡ q → slice_get packets place ≡ q
packet_read packets xs place o q e f g = cc

module _ (p : Parameters) (d : KeptDatagrams) (packets : List StoredPacket) (st : IsStore p d packets) where
  abbrev all : Crossing
  all = crossing_by p d packets

  -- each packet has the position of a datagram
  pub datagram_of : (place : ℕ) (x : StoredPacket) → slice_get packets place ≡ Some x → (y : Kept) × (slice_get (kept_by d x.side) x.position ≡ Some y)
  datagram_of place x g = slice_get_some (kept_by d x.side) x.position (st.positions place x g)

  -- a packet and its datagram
  abbrev pub IsHeld : Side → ℕ → StoredPacket → Kept → Type 0
  IsHeld side place x y = (slice_get packets place ≡ Some x) × (x.side ≡ side) × (slice_get (kept_by d side) x.position ≡ Some y)

  -- a first copy is that of the packet at its place
  copy_held : (side : Side) (i : ℕ) (c : FirstCopy) → slice_get (sent_by all side) i ≡ Some c
      → (x : StoredPacket) × (y : Kept) × IsHeld side c.place x y × (i ≡ x.position) × (y.place ≡ c.place)
  copy_held side i c f =
      let own = list_of all st.crossing side in
      let w = own.firsts i c f in
      let q = get_mapped (packet_by d) packets c.place w.0 w.1 in
      let x = q.0 in
      let at : x.side ≡ side = ap (λ (a : Packet). a.side) q.2 ∙ w.2 in
      let r = datagram_of c.place x q.1 in
      let there : slice_get (kept_by d side) x.position ≡ Some r.0 = rw at at r.1 in
      let mine = kept_at p d packets st side x.position r.0 there in
      let bytes : r.0.bytes ≡ w.0.payload = ap (λ (o : Option Kept). bytes_of o) (sym r.1) ∙ ap (λ (a : Packet). a.payload) q.2 in
      let one : mine.pdu ≡ c.pdu = read_once p st.crossing.valid.valid side mine.pdu c.pdu r.0.bytes mine.spelled (rw bytes w.3) in
      let same : i ≡ x.position = grind (arith, number_once, ordered, few_of) in
      grind arith

  -- no packet, no copy
  pub not_placed : (side : Side) (place : ℕ) → slice_get packets place ≡ None → position_of_place (sent_by all side) place ≡ None
  not_placed side place g = place_missing (sent_by all side) place (λ i c f e. (let w = (copy_held side i c f).2.0 in cc))

  -- a packet of the other side is no copy of this
  pub other_side : (side : Side) (place : ℕ) (x : StoredPacket) → slice_get packets place ≡ Some x → (x.side ≡ side → ⊥) → position_of_place (sent_by all side) place ≡ None
  other_side side place x g differ = grind (arith, place_missing, copy_held)

  pub first_there : (side : Side) (place : ℕ) (x : StoredPacket) (y : Kept) → IsHeld side place x y → y.place ≡ place → position_of_place (sent_by all side) place ≡ Some x.position
  first_there side place x y h e =
      subst (λ (n : ℕ). position_of_place (sent_by all side) n ≡ Some x.position) e
      (place_named (sent_by all side) (ordered (list_of all st.crossing side)) x.position _ (kept_at p d packets st side x.position y h.2).there)

  pub copy_there : (side : Side) (place : ℕ) (x : StoredPacket) (y : Kept) → IsHeld side place x y → (y.place ≡ place → ⊥) → position_of_place (sent_by all side) place ≡ None
  copy_there side place x y h differ = grind (arith, place_missing, copy_held)

  -- the packet that a place holds, and its number
  pub stored_packet : (place : ℕ) (x : StoredPacket) → slice_get packets place ≡ Some x → (number : ℕ)
      → option_map (λ (c : FirstCopy). c.pdu.number) (slice_get (sent_by all x.side) x.position) ≡ Some number
      → (a : Packet) × (r : RedundancyPdu) × (slice_get all.packets place ≡ Some a) × Spells p a.side r a.payload × ◌≡◌ {A = Side × ℕ} (x.side, number) (a.side, r.number)
  stored_packet place x g number e =
      let w = datagram_of place x g in
      let mine = kept_at p d packets st x.side x.position w.0 w.1 in
      let same : mine.pdu.number ≡ number = (let z = sym (ap (option_map (λ (c : FirstCopy). c.pdu.number)) mine.there) ∙ e in cc) in
      (_, mine.pdu, payload_at p d packets place x w.0 g w.1, mine.spelled, (λ i. (x.side, sym same i)))

  one_pdu : (a b : FirstCopy) → Some a ≡ Some b → a.pdu ≡ b.pdu
  one_pdu a b e = (let z : a ≡ b = cc in ap (λ (c : FirstCopy). c.pdu) z)

  -- the packet that a place holds, and its PDU
  pub stored_pdu : (place : ℕ) (x : StoredPacket) → slice_get packets place ≡ Some x → (f : ℕ) (pdu : Pdu)
      → Some (copy_of (f, pdu)) ≡ slice_get (sent_by all x.side) x.position
      → (a : Packet) × (slice_get all.packets place ≡ Some a) × (x.side ≡ a.side) × Spells p a.side (value_of pdu) a.payload
  stored_pdu place x g f pdu e =
      let w = datagram_of place x g in
      let mine = kept_at p d packets st x.side x.position w.0 w.1 in
      let same : mine.pdu ≡ value_of pdu = one_pdu _ (copy_of (f, pdu)) (sym mine.there ∙ sym e) in
      (_, payload_at p d packets place x w.0 g w.1, refl, subst (λ (r : RedundancyPdu). Spells p x.side r w.0.bytes) same mine.spelled)

-- ---- packets of known numbers

-- the first copy of a number stands at the number's position
or_len : (own : List FirstCopy) (n : ℕ) → copy_with own n ≡ slice_get own (position_or_len (nat_eq n) (numbers_of own))
or_len [] n = refl
or_len (c ∷ own) n = (let more = or_len own n in grind (arith, nat_tests))

pub copy_of_position : (own : List FirstCopy) (n position : ℕ) → position_of_number own n ≡ Some position → copy_with own n ≡ slice_get own position
copy_of_position own n position e = grind (arith, or_len, cond_some)

pub no_copy : (own : List FirstCopy) (n : ℕ) → position_of_number own n ≡ None → copy_with own n ≡ None
no_copy own n e = grind (arith, nat_tests, length-map, or_len, slice_get_past)

-- what is known of a packet whose number is that of a first copy
module _ (k : Crossing) (a : Packet) (pdu : RedundancyPdu) (reads : decode_of k.params a.side a.payload ≡ Ok pdu) where
  abbrev sent : List FirstCopy
  sent = sent_by k a.side

  -- it isn't that first copy's, so it differs
  pub differs_at : (position : ℕ) → position_of_number sent pdu.number ≡ Some position
      → ((i : ℕ) (c : FirstCopy) → slice_get sent i ≡ Some c → a.payload ≡ redundancy_bytes k.params a.side c.pdu → ⊥)
      → packet_fault k.params sent a ≡ Some copy_differs
  differs_at position e new =
      let c = number_found sent pdu.number position e in
      let differs = new position c.0 c.1 in
      grind (arith, known_by, copy_of_position, bytes_eq-Decides)

  -- no first copy has its number, which isn't the next
  pub skips : position_of_number sent pdu.number ≡ None → is_next_number sent pdu.number ≡ false → packet_fault k.params sent a ≡ Some number_gap
  skips e f = (known_by k a pdu None reads (no_copy sent pdu.number e)).0 ∙ ap (λ (b : Bool). if b then None else Some number_gap) f

-- ---- what the code looks up

-- the position of the bytes of a first copy
pub ruleset same_copies = (same_length, same_found, number_found, bytes_eq-Decides)

-- the position of a number of a side
pub ruleset distances = (near, far, few_of, list_of, ordered)

-- the position of a place of a side
pub ruleset places = (packet_read, not_placed, other_side, first_there, copy_there, datagram_of, same_side, sides_differ)
