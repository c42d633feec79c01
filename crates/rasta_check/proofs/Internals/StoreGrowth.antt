-- A store with one packet more.
use Rattle.std.proofs.Common.{◌≡◌, ℕ, suc, ◌+◌, ◌<◌, List, [], ◌∷◌, ◌++◌, append_assoc, length, map, Bool, not, Option, Some, None, slice_get, refl, ap, sym, ◌∙◌, subst, arith, if◌then◌else◌}
use Rattle.rasta_check.proofs.Prelude.{is_some, OfConnection, nat_tests, append-nil, length-map, length_push, map-append, slice_get_within, Side, Client, Server, Packet}
use Rattle.rasta_check.proofs.Prelude.{Parameters, AreParameters, RedundancyPdu, StoredPacket, FirstCopy, Spells, Kept, KeptDatagrams, kept_by, IsOrdered}
use Rattle.rasta_check.proofs.Prelude.{position_of_place, Crossing, IsCrossing, crossing_with, sent_by, sent_after, with_packet, IsStore, crossing_by, get_front, get_push}
use Rattle.rasta_check.proofs.Prelude.{slice_get_some, all_push}
use Rattle.rasta_pdu.proofs.Spellings.{length-redundancy_bytes}
use Rattle.rasta_check.specs.Internals.Datagrams.{keeping, nothing_kept}
use Rattle.rasta_check.specs.Internals.Stored.{Decode, HavePositions, HasPosition, copy_in, first_copies_from, packet_by}
use Rattle.rasta_check.proofs.Capture.Crossings.{list_of}
use Rattle.rasta_check.proofs.Capture.FaultlessLists.{ordered}
use Rattle.rasta_check.proofs.Capture.Positions.{place_pushed, place_missing, place_named}
use Rattle.rasta_check.proofs.Capture.Readings.{grown_same, nothing_is}
use Rattle.rasta_check.proofs.Internals.StoreLists.{kept_at, sent_is}

-- ---- the packets that are there

-- these datagrams are among those
abbrev Among : KeptDatagrams → KeptDatagrams → Type 0
Among d e = (side : Side) (i : ℕ) (x : Kept) → slice_get (kept_by d side) i ≡ Some x → slice_get (kept_by e side) i ≡ Some x

same_packets : (d e : KeptDatagrams) → Among d e → (xs : List StoredPacket) → HavePositions d xs → map (packet_by e) xs ≡ map (packet_by d) xs
same_packets d e h [] l = refl
same_packets d e h (x ∷ xs) l = (let w = slice_get_some (kept_by d x.side) x.position (l 0 x refl) in let more = same_packets d e h xs (λ j y g. l (suc j) y g) in grind arith)

among_keeping : (d : KeptDatagrams) (side : Side) (y : Kept) → Among d (keeping d side y)
among_keeping d side y other i x g = grind (arith, get_front)

-- what holds of the longer lists of one side, and of the lists that are there, holds of both sides' lists
with_more : (P : Side → List Kept → List FirstCopy → Type 0) (d : KeptDatagrams) (y : Kept) (k : Crossing) (a : Packet) (side : Side) (own : List FirstCopy) → P side (kept_by d side ++ y ∷ []) own
    → ((s : Side) → P s (kept_by d s) (sent_by k s)) → (s : Side) → P s (kept_by (keeping d side y) s) (sent_by (crossing_with k a side own) s)
with_more P d y k a Client own new old Client = new
with_more P d y k a Client own new old Server = old Server
with_more P d y k a Server own new old Client = old Client
with_more P d y k a Server own new old Server = new

-- ---- the bytes of first copies

abbrev first_part : Crossing → Packet → ℕ → List ℕ
first_part k a place = if is_some (position_of_place (sent_by k a.side) place) then a.payload else []

-- both lists have the same places below this one
abbrev SamePlaces : Crossing → Crossing → ℕ → Type 0
SamePlaces k l end = (side : Side) (place : ℕ) → place < end → position_of_place (sent_by l side) place ≡ position_of_place (sent_by k side) place

copies_more : (k l : Crossing) (place : ℕ) (xs : List Packet) (a : Packet) (end : ℕ) → SamePlaces k l end → place + length xs ≡ end
    → first_copies_from l place (xs ++ a ∷ []) ≡ first_copies_from k place xs ++ first_part l a end
unfolding first_copies_from
copies_more k l place [] a end h e = grind (arith, append-nil)
copies_more k l place (x ∷ xs) a end h e = (let more = copies_more k l (suc place) xs a end h (omega arith) in grind (arith, append_assoc))

no_place : (k : Crossing) → IsCrossing k → (side : Side) → position_of_place (sent_by k side) (length k.packets) ≡ None
no_place k h side = (let own = list_of k h side in grind (arith, place_missing, slice_get_within))

-- ---- a store with one packet more

module _ (p : Parameters) (d : KeptDatagrams) (packets : List StoredPacket) (st : IsStore p d packets) (a : Packet) (h : IsCrossing (with_packet (crossing_by p d packets) a)) where
  abbrev k : Crossing
  k = crossing_by p d packets

  -- with these datagrams, the last of which its payload may be
  module _ (e : KeptDatagrams) (x : StoredPacket) (own : List FirstCopy) (after : sent_after k a ≡ own) (among : Among d e) (here : packet_by e x ≡ a)
      (lists : (s : Side) → map (copy_in p s) (kept_by e s) ≡ sent_by (crossing_with k a a.side own) s) where
    grown_view : crossing_by p e (packets ++ x ∷ []) ≡ crossing_with k a a.side own
    grown_view = (let all = same_packets d e among packets st.positions in let client = lists Client in let server = lists Server in grind (arith, map-append))

    grown : ((s : Side) → Decode p s (kept_by e s)) → x.position < length (kept_by e x.side) → SamePlaces k (crossing_with k a a.side own) (length k.packets)
        → e.bytes ≡ d.bytes ++ first_part (crossing_with k a a.side own) a (length k.packets)
        → IsStore p e (packets ++ x ∷ []) × (crossing_by p e (packets ++ x ∷ []) ≡ with_packet k a)
    grown decode within places bytes =
        let view = grown_view ∙ ap (crossing_with k a a.side) (sym after) in
        let l = crossing_with k a a.side own in (
          record {
            crossing = subst IsCrossing (sym view) h;
            decode = decode;
            positions = all_push packets x
                (λ i y o. (let w = slice_get_some (kept_by d y.side) y.position (st.positions i y o) in slice_get_within (kept_by e y.side) y.position w.0 (among y.side y.position w.0 w.1))) within;
            bytes = bytes ∙ (λ i. st.bytes i ++ first_part l a (length k.packets)) ∙ sym (copies_more k l 0 k.packets a (length k.packets) places (omega arith))
                ∙ ap (first_copies_from l 0) (sym (ap (λ (q : Crossing). q.packets) (grown_same k a a.side own))) ∙ sym (ap (λ (q : Crossing). first_copies_from q 0 q.packets) grown_view);
          },
          view,
        )

  abbrev stored : ℕ → StoredPacket
  stored position = record { position = position; channel = a.channel; side = a.side }

  -- a packet that repeats a first copy adds no bytes
  pub grown_copy : (position : ℕ) (all : List StoredPacket) → HasPosition k a (Some position) → all ≡ packets ++ stored position ∷ []
      → IsStore p d all × (crossing_by p d all ≡ with_packet k a)
  grown_copy position all j e =
      let size = ap length (sent_is p d packets a.side) ∙ length-map (kept_by d a.side) (copy_in p a.side) in
      let within : position < length (kept_by d a.side) = grind (arith, slice_get_within) in
      let w = slice_get_some (kept_by d a.side) position within in
      let f = kept_at p d packets st a.side position w.0 w.1 in
      let here : packet_by d (stored position) ≡ a = grind arith in
      let none = no_place k st.crossing a.side in
      rw e (grown d (stored position) (sent_by k a.side) j.3 (λ side i x g. g) here (λ s. grind (arith, sent_is)) st.decode within (λ s q l. grind arith) (grind (arith, append-nil)))

  -- the bytes of one whose number is new come last
  pub grown_new : (position place : ℕ) (more : KeptDatagrams) (all : List StoredPacket) → place ≡ length packets → position ≡ length (kept_by d a.side) → HasPosition k a None
      → more ≡ keeping d a.side (record { place = place; bytes = a.payload }) → all ≡ packets ++ stored position ∷ []
      → IsStore p more all × (crossing_by p more all ≡ with_packet k a)
  grown_new position place more all at last j m e =
      let y : Kept = record { place = place; bytes = a.payload } in
      let c : FirstCopy = record { place = length k.packets; pdu = j.0 } in
      let own = sent_by k a.side ++ c ∷ [] in
      let n : place ≡ length k.packets = at ∙ sym (length-map packets (packet_by d)) in
      let here : packet_by (keeping d a.side y) (stored position) ≡ a = grind (arith, get_push) in
      let goes : IsOrdered own = (let more = list_of (with_packet k a) h a.side in grind (arith, ordered)) in
      let named = place_named own goes (length (sent_by k a.side)) c (get_push (sent_by k a.side) c) in
      let lists : (s : Side) → map (copy_in p s) (kept_by (keeping d a.side y) s) ≡ sent_by (crossing_with k a a.side own) s = λ s. grind (arith, map-append, sent_is) in
      let decode = with_more (λ s kept sent. Decode p s kept) d y k a a.side own (all_push (kept_by d a.side) y (st.decode a.side) (j.0, j.1, j.2)) st.decode in
      let places : SamePlaces k (crossing_with k a a.side own) (length k.packets) = λ s q l. grind (arith, nat_tests, place_pushed) in
      let size = length_push (kept_by d a.side) y in
      rw (e, m) (grown (keeping d a.side y) (stored position) own j.3 (among_keeping d a.side y) here lists decode (grind arith) places (grind arith))

-- ---- as the code adds it

-- a datagram that decodes fits its length field
pub datagram_fits : (p : Parameters) (side : Side) (pdu : RedundancyPdu) (bytes : List ℕ) → AreParameters p → Spells p side pdu bytes → length bytes < 65536
datagram_fits p side pdu bytes valid s = (let n = ap length s.same ∙ length-redundancy_bytes p side pdu valid s.fits in let few = s.fits.size in omega arith)

-- a list of its side goes on where its number is new
pub judged_length : (k : Crossing) (a : Packet) (known : Option ℕ) (is_new : Bool) → HasPosition k a known → is_some known ≡ not is_new → length (sent_after k a) ≡ length (sent_by k a.side) + (if is_new then 1 else 0)
judged_length k a known is_new j e = grind (arith, length_push)

-- ---- at the start

pub empty_store : (p : Parameters) → OfConnection p → IsStore p nothing_kept []
unfolding first_copies_from
empty_store p h = record { crossing = nothing_is p h; decode = λ side i x g. absurd (grind arith); positions = λ i x g. absurd (cc); bytes = refl }
