-- A crossing goes on with a packet that has no fault.
use Rattle.std.proofs.Common.{◌≡◌, ℕ, ◌+◌, ◌<◌, ◌≤◌, ◌++◌, Bool, true, List, [], ◌∷◌, Option, Some, None, Result, Ok, Err, length, slice_get, refl, ap, ◌∙◌, arith, not, nat_lt, is_some, if◌then◌else◌, IfSome}
use Rattle.rasta_check.proofs.Prelude.{◌&&◌, ◌||◌, option_map, length_push, slice_get_within, bytes_eq, bytes_eq-Decides, Fault, number_gap, Side, Client, Server, Packet}
use Rattle.rasta_check.proofs.Prelude.{Parameters, AreParameters, AreBytes, RedundancyPdu, redundancy_bytes, decode_of, value_of, wrapped, FirstCopy, Sent, Spells, copy_with}
use Rattle.rasta_check.proofs.Prelude.{is_next_number, packet_fault, CrossRecorded, OfConnection, copy_of, Pdu, Crossing, IsCrossing, sent_by, sent_after, with_packet}
use Rattle.rasta_check.proofs.Prelude.{crossing_with, keeps_limits, nat_tests, mapped_some}
use Rattle.rasta_pcap.specs.Fault.{copy_differs}
use Rattle.std.proofs.lemmas.Nat.{from_le_bytes-to_le_bytes_4}
use Rattle.rasta_pdu.proofs.Spellings.{decode_of-Ok}
use Rattle.rasta_check.specs.Capture.PacketFaults.{number_fault, read_fault}
use Rattle.rasta_check.specs.Capture.SentLists.{number_in_bytes}
use Rattle.rasta_check.specs.Capture.SentLists.{IsRecorded}
use Rattle.rasta_check.specs.Model.Theorem.{most_packets}
use Rattle.rasta_check.specs.Model.World.{most_sent}
use Rattle.rasta_check.specs.Internals.Packets.{with_new}
use Rattle.rasta_check.specs.Capture.Reading.{after_pdu, after_read}
use Rattle.rasta_check.proofs.Capture.FaultlessLists.{IsSent, ordered}
use Rattle.rasta_check.proofs.Capture.ListForms.{to_record, of_record}
use Rattle.rasta_check.proofs.Capture.FirstCopies.{sent_copy, sent_first, sent_other}
use Rattle.rasta_check.proofs.Capture.NextPackets.{counted}
use Rattle.rasta_check.proofs.Capture.PacketFaults.{copy_found, passed}
use Rattle.rasta_check.proofs.Capture.Channels.{recorded_more}
use Rattle.rasta_check.proofs.Capture.Positions.{next_new}

next_of : (os : List FirstCopy) (n : ℕ) → is_next_number os n ≡ true → (c : FirstCopy) → slice_get os 0 ≡ Some c → n ≡ wrapped (c.pdu.number + length os)
next_of os n h c g = grind arith

module _ (p : Parameters) (packets : List Packet) (side : Side) (own : List FirstCopy) (a : Packet) (sent : IsSent p packets side own) (of_side : a.side ≡ side) where
  by_copy : (d : RedundancyPdu) → Spells p side d a.payload → (o : Option FirstCopy) → copy_with own d.number ≡ o → number_fault p side own a.payload d o ≡ None
      → IsSent p (packets ++ a ∷ []) side (after_pdu own (length packets) d o)
  by_copy d s None e n =
      let f = counted p packets side own d sent s.fits.number (next_of own d.number (passed (is_next_number own d.number) number_gap n)) in
      (sent_first p packets a side own d f.0 sent f.1 of_side s f.2).0
  by_copy d s (Some c) e n =
      let f = copy_found own d.number c e in
      let w = sent.firsts f.0 c f.1 in
      let same : redundancy_bytes p side c.pdu ≡ a.payload = (bytes_eq-Decides (redundancy_bytes p side c.pdu) a.payload).0 (passed (bytes_eq (redundancy_bytes p side c.pdu) a.payload) copy_differs n) in
      sent_copy p packets a side own c.place w.0 sent w.1 w.2 (w.3.same ∙ same)

-- it is read as this PDU, which its bytes spell
abbrev pub IsRead : Parameters → Packet → Type 0
IsRead p a = (d : RedundancyPdu) × (decode_of p a.side a.payload ≡ Ok d) × Spells p a.side d a.payload

-- a packet without a fault is read
pub is_read : (p : Parameters) (own : List FirstCopy) (a : Packet) → AreParameters p → AreBytes a.payload → packet_fault p own a ≡ None → IsRead p a
is_read p own a valid are n = by (decode_of p a.side a.payload) refl n
  where
    by : (r : Result RedundancyPdu Fault) → decode_of p a.side a.payload ≡ r → read_fault p a.side own a.payload r ≡ None → IsRead p a
    by (Err fault) e none = absurd (cc)
    by (Ok d) e none = (let is = decode_of-Ok p a.side a.payload d valid are e in (d, e, record { fits = is.is; same = is.spelled }))

-- the sent list of its sender goes on
pub goes_on : (p : Parameters) (packets : List Packet) (own : List FirstCopy) (a : Packet) → IsSent p packets a.side own → IsRead p a
    → packet_fault p own a ≡ None → IsSent p (packets ++ a ∷ []) a.side (after_read own (length packets) (decode_of p a.side a.payload))
goes_on p packets own a sent w n = (let more = by_copy p packets a.side own a sent refl w.0 w.2 (copy_with own w.0.number) refl in grind arith)

pub goes_on_sent : (p : Parameters) (packets : List Packet) (own : List FirstCopy) (a : Packet) → IsSent p packets a.side own → length own ≤ 1000000 → IsRead p a
    → packet_fault p own a ≡ None → Sent p (packets ++ a ∷ []) a.side (after_read own (length packets) (decode_of p a.side a.payload))
goes_on_sent p packets own a sent few w n = (let own = goes_on p packets own a sent w n in grind (arith, of_record, length_push))

-- ---- packets of known numbers

pub list_of : (k : Crossing) → IsCrossing k → (side : Side) → IsSent k.params k.packets side (sent_by k side)
list_of k h side = grind (arith, to_record)

pub few_of : (k : Crossing) → IsCrossing k → (side : Side) → length (sent_by k side) ≤ 1000000
few_of k h side = grind arith

-- the packet of a first copy
first_packet : (k : Crossing) (side : Side) (number place : ℕ) → IsCrossing k → option_map (λ (c : FirstCopy). c.place) (copy_with (sent_by k side) number) ≡ Some place
    → (c : FirstCopy) × (b : Packet) × (copy_with (sent_by k side) number ≡ Some c) × (slice_get k.packets place ≡ Some b) × (b.payload ≡ redundancy_bytes k.params side c.pdu)
first_packet k side number place h e =
    let w = mapped_some (λ (c : FirstCopy). c.place) (copy_with (sent_by k side) number) place e in
    let f = copy_found (sent_by k side) number w.0 w.1 in
    let q = (list_of k h side).firsts f.0 w.0 f.1 in
    grind arith

pub place_within : (k : Crossing) (side : Side) (number place : ℕ) → IsCrossing k → option_map (λ (c : FirstCopy). c.place) (copy_with (sent_by k side) number) ≡ Some place
    → place < length k.packets
place_within k side number place h e = (let w = first_packet k side number place h e in slice_get_within k.packets place w.1 w.3)

-- what is known of a packet whose PDU is read
pub known_by : (k : Crossing) (a : Packet) (d : RedundancyPdu) (o : Option FirstCopy) → decode_of k.params a.side a.payload ≡ Ok d → copy_with (sent_by k a.side) d.number ≡ o
    → (packet_fault k.params (sent_by k a.side) a ≡ number_fault k.params a.side (sent_by k a.side) a.payload d o) × (sent_after k a ≡ after_pdu (sent_by k a.side) (length k.packets) d o)
known_by k a d o reads e = rw (reads, e) (refl, refl)

-- a packet of a known number has no fault exactly where its bytes are those of the first copy
pub repeated : (k : Crossing) (a : Packet) (d : RedundancyPdu) (place : ℕ) (r : Bool) → IsCrossing k → decode_of k.params a.side a.payload ≡ Ok d
    → option_map (λ (c : FirstCopy). c.place) (copy_with (sent_by k a.side) d.number) ≡ Some place → IfSome (slice_get k.packets place) (λ (b : Packet). r ≡ bytes_eq b.payload a.payload)
    → (packet_fault k.params (sent_by k a.side) a ≡ (if r then None else Some copy_differs)) × (sent_after k a ≡ sent_by k a.side)
repeated k a d place r h e f g = grind (arith, first_packet, known_by)

-- the next number is no known one
next_unknown : (k : Crossing) (side : Side) (n : ℕ) → IsCrossing k → is_next_number (sent_by k side) n ≡ true → (o : Option FirstCopy) → copy_with (sent_by k side) n ≡ o → o ≡ None
next_unknown k side n h e None f = refl
next_unknown k side n h e (Some c) f =
    let w = copy_found (sent_by k side) n c f in
    let few = few_of k h side in
    absurd (next_new (sent_by k side) (ordered (list_of k h side)) (omega arith) n (next_of (sent_by k side) n e) w.0 c w.1 w.2)

-- a packet with the next number has no fault, and its PDU joins the list
pub is_next_pdu : (k : Crossing) (a : Packet) (pdu : Pdu) → IsCrossing k → decode_of k.params a.side a.payload ≡ Ok (value_of pdu)
    → is_next_number (sent_by k a.side) (value_of pdu).number ≡ true
    → (packet_fault k.params (sent_by k a.side) a ≡ None) × (sent_after k a ≡ with_new (sent_by k a.side) (length k.packets) (Some pdu))
is_next_pdu k a pdu h reads e = rw (reads, next_unknown k a.side (value_of pdu).number h e _ refl, e) (refl, refl)

-- ---- the limits

pub new_length : (sent : List FirstCopy) (place : ℕ) (new : Option Pdu) → length (with_new sent place new) ≡ length sent + (if is_some new then 1 else 0)
new_length sent place new = grind (arith, length_push)

-- ---- one packet more

-- lists of both sides within the limits make a crossing
pub crossing_of_lists : (k : Crossing) → OfConnection k.params → CrossRecorded k.params k.packets → keeps_limits k ≡ true → IsSent k.params k.packets Client k.client
    → IsSent k.params k.packets Server k.server → IsCrossing k
crossing_of_lists k valid recorded within c s =
    let w : (length k.packets ≤ most_packets) × (length k.client ≤ most_sent) × (length k.server ≤ most_sent) = grind (arith, nat_tests) in
    grind (arith, of_record)

grown_at : (k : Crossing) (a : Packet) (side : Side) (sent : List FirstCopy) → a.side ≡ side → IsCrossing k → IsRecorded k.params a.channel
    → IsSent k.params (k.packets ++ a ∷ []) side sent → keeps_limits (crossing_with k a side sent) ≡ true → IsCrossing (crossing_with k a side sent)
grown_at k a Client sent e h on s within = crossing_of_lists (crossing_with k a Client sent) h.valid (recorded_more k.params k.packets a h.recorded on) within
    s (sent_other k.params k.packets a Server k.server (list_of k h Server) (λ f. (cc)))
grown_at k a Server sent e h on s within = crossing_of_lists (crossing_with k a Server sent) h.valid (recorded_more k.params k.packets a h.recorded on) within
    (sent_other k.params k.packets a Client k.client (list_of k h Client) (λ f. (cc))) s

pub grown_crossing : (k : Crossing) (a : Packet) → IsCrossing k → IsRecorded k.params a.channel → IsRead k.params a → packet_fault k.params (sent_by k a.side) a ≡ None → keeps_limits (with_packet k a) ≡ true → IsCrossing (with_packet k a)
grown_crossing k a h on are n within = grown_at k a a.side (sent_after k a) refl h on (goes_on k.params k.packets (sent_by k a.side) a (list_of k h a.side) are n) within

-- whether there is room for a packet without a fault, whose PDU is new or known
pub within_room : (k : Crossing) (a : Packet) (is_new : Bool) → IsCrossing k → length (sent_after k a) ≡ length (sent_by k a.side) + (if is_new then 1 else 0)
    → keeps_limits (with_packet k a) ≡ (nat_lt (length k.packets) most_packets && (not is_new || nat_lt (length (sent_by k a.side)) most_sent))
within_room k a is_new h e = (let l = length_push k.packets a in let x = h.sent.few_client in let y = h.sent.few_server in grind (arith, nat_tests))

-- ---- the parts of a crossing with one packet more

module _ (k : Crossing) (a : Packet) (packets : List Packet) (grown : packets ≡ k.packets ++ a ∷ []) where
  pub after_client : (place : ℕ) (pdu : Pdu) (client : List FirstCopy) → a.side ≡ Client → place ≡ length k.packets → client ≡ k.client ++ copy_of (place, pdu) ∷ []
      → record { params = k.params; packets = packets; client = client; server = k.server } ≡ crossing_with k a a.side (with_new (sent_by k a.side) (length k.packets) (Some pdu))
  after_client place pdu client s l f = grind arith

  pub after_server : (place : ℕ) (pdu : Pdu) (server : List FirstCopy) → a.side ≡ Server → place ≡ length k.packets → server ≡ k.server ++ copy_of (place, pdu) ∷ []
      → record { params = k.params; packets = packets; client = k.client; server = server } ≡ crossing_with k a a.side (with_new (sent_by k a.side) (length k.packets) (Some pdu))
  after_server place pdu server s l f = grind arith

  pub after_repeat : record { params = k.params; packets = packets; client = k.client; server = k.server } ≡ crossing_with k a a.side (with_new (sent_by k a.side) (length k.packets) None)
  after_repeat = grind arith

-- ---- the number of a packet

-- each packet spells a PDU
pub spelled_at : (k : Crossing) (place : ℕ) (a : Packet) → IsCrossing k → slice_get k.packets place ≡ Some a → (d : RedundancyPdu) × Spells k.params a.side d a.payload
spelled_at k place a h g = grind arith

-- the redundancy number of what is spelled stands at its place
pub number_spelled : (p : Parameters) (side : Side) (d : RedundancyPdu) (bytes : List ℕ) → Spells p side d bytes → number_in_bytes bytes ≡ d.number
unfolding redundancy_bytes
number_spelled p side d bytes s = ap number_in_bytes s.same ∙ from_le_bytes-to_le_bytes_4 d.number s.fits.number

pub length_spelled : (p : Parameters) (side : Side) (d : RedundancyPdu) (bytes : List ℕ) → Spells p side d bytes → 8 ≤ length bytes
unfolding redundancy_bytes
length_spelled p side d bytes s = omega (arith, ap length s.same)
