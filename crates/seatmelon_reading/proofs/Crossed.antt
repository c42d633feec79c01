-- What crossed by records are the packets of the connection that they hold, place by place.
use Rattle.std.proofs.Common.{◌≡◌, ◌∙◌, ℕ, List, [], ◌∷◌, ◌++◌, append_assoc, append-nil, map, filter, cond, Bool, true, false, not, ◌&&◌, nat_le, nat_lt, Option, None, Some, Result, Ok, Err, ap, refl, sym, slice_get}
use Rattle.std.proofs.lemmas.Option.{get_or_from_slice_get, slice_get_within}
use Rattle.std.specs.List.{Contains, cons_option}
use Rattle.rasta_pcap.specs.declared.fault.Fault.{Fault}
use Rattle.rasta_pcap.specs.declared.fault.Side.{Side}
use Rattle.rasta_pcap.specs.declared.fault.Side.TheVariants.{Client, Server}
use Rattle.rasta_pcap.specs.Capture.{Numbered}
use Rattle.rasta_pcap.specs.Captured.{Captured, numbered}
use Rattle.rasta_udp.specs.Frame.{Packet, packet_in}
use Rattle.rasta_pdu.specs.Params.{Parameters}
use Rattle.rasta_pdu.specs.Records.{at_record, recorded_packet}
use Rattle.rasta_check.proofs.Lists.{get_mapped}
use Rattle.rasta_check.specs.Capture.Crossing.{Crossing, nothing_crossed}
use Rattle.rasta_check.specs.Capture.Reading.{after_found, after_packet, after_record, after_records, crossing_with, keeps_limits, sent_after, then_crossing, with_packet}
use Rattle.rasta_check.specs.Capture.Reading as crossings
use Rattle.rasta_check.specs.Capture.SentLists.{FirstCopy}
use Rattle.seatmelon_reading.specs.Noted.{Seen, all_seen, is_before, is_inside, is_left_out, seen_by, seen_in, seen_inside, sighting_of}
use Rattle.seatmelon_reading.specs.Reading.{HaveCrossed, judged_of}
use Rattle.seatmelon_reading.specs.declared.notes.Sighting.{Sighting}

abbrev Standing : Type 0
Standing = Result Crossing Fault

abbrev ok : Crossing → Standing
ok k = Ok k

same_crossing : (k n : Crossing) → ok k ≡ ok n → k ≡ n
same_crossing k n e = cc

-- ---- what a packet adds

within_is : (b : Bool) (k n : Crossing) (f : Fault) → cond b (ok k) (Err f) ≡ ok n → n ≡ k
within_is true k n f e = sym (same_crossing k n e)
within_is false k n f e = absurd cc

judged_is : (o : Option ℕ) (k n : Crossing) (number : ℕ) (packet : Packet) → crossings.after_judged k number packet o ≡ ok n → n ≡ with_packet k packet
judged_is (Some fault) k n number packet e = absurd cc
judged_is None k n number packet e = within_is (keeps_limits (with_packet k packet)) (with_packet k packet) n _ e

packet_is : (k n : Crossing) (number : ℕ) (packet : Packet) → after_packet k number packet ≡ ok n → n ≡ with_packet k packet
unfolding after_packet
packet_is k n number packet e = judged_is _ k n number packet e

params_with : (k : Crossing) (packet : Packet) (side : Side) (sent : List FirstCopy) → (crossing_with k packet side sent).params ≡ k.params
params_with k packet Client sent = refl
params_with k packet Server sent = refl

packets_with : (k : Crossing) (packet : Packet) (side : Side) (sent : List FirstCopy) → (crossing_with k packet side sent).packets ≡ k.packets ++ packet ∷ []
packets_with k packet Client sent = refl
packets_with k packet Server sent = refl

found_params : (found : Result (Option Packet) Fault) (k n : Crossing) (number : ℕ) → after_found k number found ≡ ok n → n.params ≡ k.params
found_params (Ok None) k n number e = ap (λ (c : Crossing). c.params) (sym (same_crossing k n e))
found_params (Ok (Some packet)) k n number e =
    ap (λ (c : Crossing). c.params) (packet_is k n number packet e) ∙ params_with k packet packet.side (sent_after k packet)
found_params (Err f) k n number e = absurd cc

-- the parameters of what crosses stay
pub record_params : (k n : Crossing) (r : Numbered) → after_record k r ≡ Ok n → n.params ≡ k.params
unfolding after_record
record_params k n r e = found_params (recorded_packet k.params r) k n r.0 e

-- ---- what a record adds

abbrev packet_seen : Seen → Packet
packet_seen s = s.packet

-- the packets of the connection that were seen, after those that crossed
abbrev with_seen : Crossing → List Seen → List Packet
with_seen k seen = k.packets ++ map packet_seen seen

module _ (p : Parameters) (r : Captured) (later : List Seen) where
  abbrev rest : List Seen
  rest = filter (is_inside p) later

  -- the packets of the connection from this record on, if this is read of it
  abbrev from : Option Seen → List Seen
  from o = filter (is_inside p) (cons_option o later)

  outside_kept : (s : Seen) → is_inside p s ≡ false → from (Some s) ≡ rest
  outside_kept s e = ap (λ b. cond b (s ∷ rest) rest) e

  inside_added : (s : Seen) → is_inside p s ≡ true → from (Some s) ≡ s ∷ rest
  inside_added s e = ap (λ b. cond b (s ∷ rest) rest) e

  same_after : (k m : Crossing) (found : List Seen) → found ≡ rest → ok k ≡ ok m → with_seen k found ≡ with_seen m rest
  same_after k m found same e = ap (with_seen k) same ∙ ap (λ (c : Crossing). with_seen c rest) (same_crossing k m e)

  -- a record in the window
  taken : (within : nat_le r.number p.last_record ≡ true) (before : Bool) (found : Result (Option Packet) Fault) (k m : Crossing) → nat_lt r.number p.first_record ≡ before
      → after_found k r.number (cond before (Ok None) (at_record r.number found)) ≡ ok m → with_seen k (from (seen_by r found)) ≡ with_seen m rest
  taken within true (Ok None) k m stands e = same_after k m rest refl e
  taken within true (Ok (Some a)) k m stands e =
      let s : Seen = record { captured = r; packet = a } in
      same_after k m (from (Some s)) (outside_kept s (ap (λ b. not b && nat_le r.number p.last_record) stands)) e
  taken within true (Err f) k m stands e = same_after k m rest refl e
  taken within false (Ok None) k m stands e = same_after k m rest refl e
  taken within false (Ok (Some a)) k m stands e =
      let s : Seen = record { captured = r; packet = a } in
      let inside : is_inside p s ≡ true = ap (λ b. not b && nat_le r.number p.last_record) stands ∙ within in
      ap (with_seen k) (inside_added s inside) ∙ sym (append_assoc k.packets (a ∷ []) (map packet_seen rest))
      ∙ ap (λ l. l ++ map packet_seen rest) (sym (packets_with k a a.side (sent_after k a)))
      ∙ ap (λ (c : Crossing). with_seen c rest) (sym (packet_is k m r.number a e))
  taken within false (Err f) k m stands e = absurd cc

  -- one behind the window
  behind : (found : Result (Option Packet) Fault) → nat_le r.number p.last_record ≡ false → from (seen_by r found) ≡ rest
  behind (Ok None) beyond = refl
  behind (Ok (Some a)) beyond = (let s : Seen = record { captured = r; packet = a } in outside_kept s (outside (is_before p s) beyond))
    where
      outside : (before : Bool) → nat_le r.number p.last_record ≡ false → (not before && nat_le r.number p.last_record) ≡ false
      outside true e = refl
      outside false e = e
  behind (Err f) beyond = refl

-- ---- what records add

module _ (p : Parameters) (without : List ℕ) where
  abbrev Adds : List Captured → Type 0
  Adds records = (k n : Crossing) → k.params ≡ p → after_records k (judged_of p without records) None ≡ ok n → n.packets ≡ with_seen k (seen_inside p without records)

  -- the packets of the connection from a record on
  abbrev seen_from : Captured → List Captured → Option Seen → List Seen
  seen_from r records o = filter (is_inside p) (cons_option o (all_seen p without records))

  then_adds : (r : Captured) (records : List Captured) (k n : Crossing) (standing : Standing) → Adds records → k.params ≡ p → after_record k (numbered r) ≡ standing
      → then_crossing standing (λ m. after_records m (judged_of p without records) None) ≡ ok n
      → ((m : Crossing) → after_record k (numbered r) ≡ ok m → with_seen k (seen_from r records (seen_in p without r)) ≡ with_seen m (seen_inside p without records))
      → n.packets ≡ with_seen k (seen_from r records (seen_in p without r))
  then_adds r records k n (Ok m) adds same is e taken = adds m n (record_params k m (numbered r) is ∙ same) e ∙ sym (taken m is)
  then_adds r records k n (Err f) adds same is e taken = absurd cc

  taken_in : (r : Captured) (records : List Captured) (k m : Crossing) → is_left_out without r.number ≡ false → nat_le r.number p.last_record ≡ true → k.params ≡ p
      → after_record k (numbered r) ≡ ok m → with_seen k (seen_from r records (seen_in p without r)) ≡ with_seen m (seen_inside p without records)
  unfolding after_record
  taken_in r records k m stays within same e =
      let read : after_found k r.number (cond (nat_lt r.number p.first_record) (Ok None) (at_record r.number (packet_in p.channels r.bytes))) ≡ ok m =
      ap (λ (q : Parameters). after_found k r.number (recorded_packet q (numbered r))) (sym same) ∙ e in
      ap (λ b. with_seen k (seen_from r records (cond b None (seen_by r (packet_in p.channels r.bytes))))) stays
      ∙ taken p r (all_seen p without records) within (nat_lt r.number p.first_record) (packet_in p.channels r.bytes) k m refl read

  adds_by : (r : Captured) (records : List Captured) (k n : Crossing) (out within : Bool) → is_left_out without r.number ≡ out → nat_le r.number p.last_record ≡ within → Adds records
      → k.params ≡ p → after_records k (cond (not out && within) (numbered r ∷ judged_of p without records) (judged_of p without records)) None ≡ ok n
      → n.packets ≡ with_seen k (seen_from r records (seen_in p without r))
  unfolding after_records
  adds_by r records k n true within left stands adds same e =
      adds k n same e ∙ ap (λ b. with_seen k (seen_from r records (cond b None (seen_by r (packet_in p.channels r.bytes))))) (sym left)
  adds_by r records k n false false left stands adds same e =
      adds k n same e ∙ ap (with_seen k) (sym (behind p r (all_seen p without records) (packet_in p.channels r.bytes) stands))
      ∙ ap (λ b. with_seen k (seen_from r records (cond b None (seen_by r (packet_in p.channels r.bytes))))) (sym left)
  adds_by r records k n false true left stands adds same e =
      then_adds r records k n (after_record k (numbered r)) adds same refl e (λ m. taken_in r records k m left stands same)

  adds_all : (records : List Captured) → Adds records
  unfolding after_records
  adds_all [] k n same e = ap (λ (c : Crossing). c.packets) (sym (same_crossing k n e)) ∙ sym (append-nil k.packets)
  adds_all (r ∷ records) k n same e = adds_by r records k n (is_left_out without r.number) (nat_le r.number p.last_record) refl refl (adds_all records) same e

  -- the packets that crossed are those of the connection, place by place
  pub crossed_seen : (records : List Captured) (k : Crossing) → HaveCrossed p without records k → k.packets ≡ map packet_seen (seen_inside p without records)
  crossed_seen records k crossed = adds_all records (nothing_crossed p) k refl crossed

-- ---- a place

same_seen : (s t : Seen) (o : Option Seen) → o ≡ Some s → o ≡ Some t → s ≡ t
same_seen s t o e f = (let both : ◌≡◌ {A = Option Seen} (Some s) (Some t) = sym e ∙ f in cc)

-- a packet of the connection with this sighting
pub record IsSeen (zero : Bool) (seen : List Seen) (sighting : Sighting) (packet : Packet) : Type 0 where
  pub at : Seen
  pub read : Contains seen at
  pub sighted : sighting ≡ sighting_of zero at
  pub same : packet ≡ at.packet

-- the sighting and the packet at a place are those of one record
pub seen_at : (zero : Bool) (seen : List Seen) (place : ℕ) (sighting : Sighting) (packet : Packet) → slice_get (map (sighting_of zero) seen) place ≡ Some sighting
    → slice_get (map packet_seen seen) place ≡ Some packet → IsSeen zero seen sighting packet
seen_at zero seen place sighting packet noted crossed =
    let s = get_mapped (sighting_of zero) seen place sighting noted in
    let t = get_mapped packet_seen seen place packet crossed in
    let same : s.0 ≡ t.0 = same_seen s.0 t.0 (slice_get seen place) s.1 t.1 in record {
      at = s.0;
      read = (place, slice_get_within seen place s.0 s.1, get_or_from_slice_get seen place s.0 s.0 s.1);
      sighted = sym s.2;
      same = sym t.2 ∙ ap packet_seen (sym same);
    }
