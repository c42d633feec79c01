-- The packets of a connection that records hold, and what they show.
use Rattle.std.proofs.Common.{◌≡◌, ◌∙◌, ⊎_elim, ℕ, suc, ◌<◌, ◌≤◌, List, [], ◌∷◌, ◌++◌, append_assoc, append-nil, length, take, map, filter_map, cond, Bool, true, false, ◌&&◌, nat_le, Option, None, Some, Result, Ok, Err, is_some, ap, refl, sym, arith}
use Rattle.std.proofs.lemmas.Bool.Decides.{nat_tests}
use Rattle.std.proofs.lemmas.List.{length_push, take-append-le, take_all}
use Rattle.std.proofs.lemmas.List.Elements.{filter_map-append}
use Rattle.std.specs.List.{cons_option}
use Rattle.std.specs.Prelude.{option_to_list}
use Rattle.rasta_pcap.specs.declared.fault.Fault.{Fault}
use Rattle.rasta_pcap.specs.declared.fault.Side.{Side}
use Rattle.rasta_pcap.specs.declared.fault.Side.TheVariants.{Client, Server}
use Rattle.rasta_pcap.specs.Capture.{Numbered}
use Rattle.rasta_pcap.specs.Captured.{Captured, captured_in, numbered}
use Rattle.rasta_udp.specs.Frame.{Packet}
use Rattle.rasta_pdu.specs.Params.{Parameters}
use Rattle.rasta_pdu.specs.Records.{recorded_packet}
use Rattle.rasta_check.specs.Capture.Crossing.{Crossing, nothing_crossed}
use Rattle.rasta_check.specs.Capture.Reading.{after_found, after_packet, after_record, after_records, at_end, crossing_of, crossing_with, keeps_limits, packet_at, packet_found, sent_after, then_crossing, with_packet}
use Rattle.rasta_check.specs.Capture.Reading as crossings
use Rattle.rasta_check.specs.Capture.SentLists.{FirstCopy}
use Rattle.seatmelon_middle.specs.Packets.{opens_first}
use Rattle.seatmelon_reading.proofs.Crossed.{record_params}
use Rattle.seatmelon_audit.specs.Records.{crossed_by, holds_packet}
use Rattle.seatmelon_audit.specs.Shown.{opens_by, opens_with, packets_held}
use Rattle.seatmelon_audit.specs.declared.line.Line.{Line}
use Rattle.seatmelon_audit.proofs.Files.{crossing_whole, fault_before}
use Rattle.seatmelon_audit.proofs.Places.{less_or_not}

abbrev Outcome : Type 0
Outcome = Result Crossing Fault

abbrev ok : Crossing → Outcome
ok k = Ok k

abbrev packet_of : Parameters → Captured → Option Packet
packet_of p r = packet_at p (numbered r)

-- ---- one record more

one_held : (o : Option Packet) → cons_option o [] ≡ option_to_list o
one_held None = refl
one_held (Some packet) = refl

none_held : (o : Option Packet) (packets : List Packet) → is_some o ≡ false → packets ++ option_to_list o ≡ packets
none_held None packets e = append-nil packets
none_held (Some packet) packets e = absurd cc

module _ (p : Parameters) (records : List Captured) (q : Captured) (next : q.number ≡ suc (length records)) where
  abbrev all : List Captured
  all = records ++ q ∷ []

  pub held_inside : q.number ≤ p.last_record → packets_held p all ≡ packets_held p records ++ option_to_list (packet_of p q)
  held_inside inside =
      let size = length_push records q in
      ap (filter_map (packet_of p)) (take_all p.last_record all (omega (arith, next, inside, size)))
      ∙ filter_map-append (packet_of p) records (q ∷ [])
      ∙ ap (λ l. filter_map (packet_of p) records ++ l) (one_held (packet_of p q))
      ∙ ap (λ l. filter_map (packet_of p) l ++ option_to_list (packet_of p q)) (sym (take_all p.last_record records (omega (arith, next, inside))))

  held_behind : p.last_record < q.number → packets_held p all ≡ packets_held p records
  held_behind behind = ap (filter_map (packet_of p)) (take-append-le p.last_record records (q ∷ []) (omega (arith, next, behind)))

  pub held_none : holds_packet p q ≡ false → packets_held p all ≡ packets_held p records
  held_none e = ⊎_elim
      (λ (behind : p.last_record < q.number). held_behind behind)
      (λ (inside : q.number ≤ p.last_record).
      let within : nat_le q.number p.last_record ≡ true = grind (arith, nat_tests, inside) in
      held_inside inside ∙ none_held (packet_of p q) (packets_held p records) (ap (λ b. b && is_some (packet_of p q)) (sym within) ∙ e))
      (less_or_not p.last_record q.number)

-- ---- whether the first packet opens the connection

pub opens_more : (p : Parameters) (packets : List Packet) (o : Option Packet) → opens_first p (packets ++ option_to_list o) ≡ opens_with (opens_first p packets) (opens_by p o)
opens_more p [] None = refl
opens_more p [] (Some packet) = refl
opens_more p (first ∷ packets) o = refl

pub opens_still : (p : Parameters) (opens : Option Bool) (o : Option Packet) → is_some o ≡ false → opens ≡ opens_with opens (opens_by p o)
opens_still p None None e = refl
opens_still p None (Some packet) e = absurd cc
opens_still p (Some opens) o e = refl

-- ---- what crosses

same_crossing : (k n : Crossing) → ok k ≡ ok n → k ≡ n
same_crossing k n e = cc

within_is : (b : Bool) (k n : Crossing) (f : Fault) → cond b (ok k) (Err f) ≡ ok n → n ≡ k
within_is true k n f e = sym (same_crossing k n e)
within_is false k n f e = absurd cc

judged_is : (o : Option ℕ) (k n : Crossing) (number : ℕ) (packet : Packet) → crossings.after_judged k number packet o ≡ ok n → n ≡ with_packet k packet
judged_is (Some fault) k n number packet e = absurd cc
judged_is None k n number packet e = within_is (keeps_limits (with_packet k packet)) (with_packet k packet) n _ e

packet_is : (k n : Crossing) (number : ℕ) (packet : Packet) → after_packet k number packet ≡ ok n → n ≡ with_packet k packet
unfolding after_packet
packet_is k n number packet e = judged_is _ k n number packet e

packets_with : (k : Crossing) (packet : Packet) (side : Side) (sent : List FirstCopy) → (crossing_with k packet side sent).packets ≡ k.packets ++ packet ∷ []
packets_with k packet Client sent = refl
packets_with k packet Server sent = refl

found_packets : (found : Result (Option Packet) Fault) (k n : Crossing) (number : ℕ) → after_found k number found ≡ ok n → n.packets ≡ k.packets ++ option_to_list (packet_found found)
found_packets (Ok None) k n number e = ap (λ (c : Crossing). c.packets) (sym (same_crossing k n e)) ∙ sym (append-nil k.packets)
found_packets (Ok (Some packet)) k n number e = ap (λ (c : Crossing). c.packets) (packet_is k n number packet e) ∙ packets_with k packet packet.side (sent_after k packet)
found_packets (Err f) k n number e = absurd cc

record_packets : (k n : Crossing) (r : Numbered) → after_record k r ≡ ok n → n.packets ≡ k.packets ++ option_to_list (packet_at k.params r)
unfolding after_record
record_packets k n r e = found_packets (recorded_packet k.params r) k n r.0 e

cons_held : (o : Option Packet) (rest : List Packet) → option_to_list o ++ rest ≡ cons_option o rest
cons_held None rest = refl
cons_held (Some packet) rest = refl

module _ (p : Parameters) where
  abbrev Adds : List Captured → Type 0
  Adds records = (k n : Crossing) → k.params ≡ p → after_records k (map numbered records) None ≡ ok n → n.packets ≡ k.packets ++ filter_map (packet_of p) records

  then_adds : (r : Captured) (records : List Captured) (k n : Crossing) (s : Outcome) → Adds records → k.params ≡ p → after_record k (numbered r) ≡ s
      → then_crossing s (λ (m : Crossing). after_records m (map numbered records) None) ≡ ok n → n.packets ≡ k.packets ++ cons_option (packet_of p r) (filter_map (packet_of p) records)
  then_adds r records k n (Ok m) adds same is e =
      let rest = filter_map (packet_of p) records in
      adds m n (record_params k m (numbered r) is ∙ same) e
      ∙ ap (λ l. l ++ rest) (record_packets k m (numbered r) is ∙ ap (λ (x : Parameters). k.packets ++ option_to_list (packet_of x r)) same)
      ∙ append_assoc k.packets (option_to_list (packet_of p r)) rest
      ∙ ap (λ l. k.packets ++ l) (cons_held (packet_of p r) rest)
  then_adds r records k n (Err f) adds same is e = absurd cc

  adds_all : (records : List Captured) → Adds records
  unfolding after_records
  adds_all [] k n same e = ap (λ (c : Crossing). c.packets) (sym (same_crossing k n e)) ∙ sym (append-nil k.packets)
  adds_all (r ∷ records) k n same e = then_adds r records k n (after_record k (numbered r)) (adds_all records) same refl e

  -- what crossed by records are the packets that they hold
  pub crossed_held : (records : List Captured) (k : Crossing) → crossed_by p records ≡ Ok k → k.packets ≡ packets_held p records
  crossed_held records k e = adds_all (take p.last_record records) (nothing_crossed p) k refl e

ended_is : (s : Outcome) (f : Option Fault) (k : Crossing) → then_crossing s (λ (m : Crossing). at_end m f) ≡ ok k → s ≡ ok k
ended_is (Ok m) None k e = e
ended_is (Ok m) (Some f) k e = absurd cc
ended_is (Err g) f k e = absurd cc

-- what crossed by a file are the packets that its records hold
pub crossing_held : (l : Line) (file : List ℕ) (k : Crossing) → crossing_of l.params file ≡ Ok k → k.packets ≡ packets_held l.params (captured_in file)
crossing_held l file k e =
    let some : 0 < l.params.last_record = (let from = l.window.from_one in let order = l.window.in_order in omega (arith, from, order)) in
    crossed_held l.params (captured_in file) k
    (ended_is (crossed_by l.params (captured_in file)) (fault_before l.params file) k (sym (crossing_whole l.params file some l.window.last_most) ∙ e))
