-- What is noted of one more record.
use Rattle.std.proofs.Common.{◌≡◌, ◌∙◌, ℕ, zero, suc, ◌+◌, ◌<◌, ◌≤◌, List, [], ◌∷◌, ◌++◌, length, map, filter, cond, Bool, true, false, not, ◌&&◌, nat_eq, nat_le, Option, None, Some, ap, refl, sym, add-one, add-zero, append-nil, get_or, set, ◌≢◌, ◌⊎◌, ⊎_elim, subst, arith, min}
use Rattle.std.proofs.lemmas.Bool.Decides.{nat_tests}
use Rattle.std.proofs.lemmas.List.{length-append, length_push, map_push}
use Rattle.std.proofs.lemmas.List.Elements.{filter-append, filter_map-append}
use Rattle.std.specs.List.{cons_option, last_or}
use Rattle.std.specs.Option.{option_map}
use Rattle.rasta_pcap.specs.declared.fault.Side.{Side}
use Rattle.rasta_pcap.specs.declared.time.CaptureTime.{CaptureTime}
use Rattle.rasta_pcap.specs.declared.fault.Side.TheVariants.{Client, Server}
use Rattle.rasta_pcap.specs.Captured.{Captured}
use Rattle.rasta_udp.specs.Frame.{Packet}
use Rattle.rasta_pdu.specs.Params.{Parameters}
use Rattle.seatmelon_reading.specs.Noted.{AreNotes, Seen, all_seen, count_on, count_with, counts_of, is_before, is_client, is_clients, is_servers, is_behind, is_inside, last_inside, last_record_of, passed_over, seen_in, numbered_seen, seen_inside, sighting_of, stands_inside}
use Rattle.seatmelon_reading.specs.Tapes.{NumberedPacket, taped_in}
use Rattle.seatmelon_reading.specs.Times.{AreTimes, time_of}
use Rattle.seatmelon_reading.specs.declared.notes.ChannelCount.{ChannelCount}
use Rattle.seatmelon_reading.specs.declared.notes.LastRecord.{LastRecord}
use Rattle.seatmelon_reading.specs.declared.notes.Notes.{Notes}
use Rattle.seatmelon_reading.specs.declared.notes.Sighting.{Sighting}
use Rattle.seatmelon_reading.specs.declared.tape.Tape.{Tape}
use Rattle.seatmelon_reading.proofs.Filters.{length_filter-most, length_filter-push}
use Rattle.seatmelon_reading.proofs.Neighbours.{last_or-push}
use Rattle.seatmelon_reading.proofs.Sorts.{passed_over-seen}

-- ---- a record without a packet

all-none : (p : Parameters) (without : List ℕ) (records : List Captured) (r : Captured) → seen_in p without r ≡ None
    → all_seen p without (records ++ r ∷ []) ≡ all_seen p without records
all-none p without records r none =
    filter_map-append (seen_in p without) records (r ∷ []) ∙ ap (λ o. all_seen p without records ++ cons_option o []) none ∙ append-nil _

-- the notes but for the count of records, what is passed over and times
pub record SameNotes (old new : Notes) : Type 0 where
  pub untimed : new.zero_is_no_time ≡ old.zero_is_no_time
  pub packets : new.packets ≡ old.packets
  pub channels : new.channels ≡ old.channels
  pub before : new.before ≡ old.before
  pub behind : new.behind ≡ old.behind
  pub tape : new.tape ≡ old.tape

-- the same packets are kept
same_tape : (old new : Tape) (before more : List NumberedPacket) → new ≡ old → (old.is_kept ≡ true → taped_in old ≡ before) → before ≡ more
    → new.is_kept ≡ true → taped_in new ≡ more
same_tape old new datagrams more same held is kept =
    ap taped_in same ∙ held (sym (ap (λ (t : Tape). t.is_kept) same) ∙ kept) ∙ is

pub passed : (p : Parameters) (without : List ℕ) (records : List Captured) (r : Captured) (old new : Notes) → AreNotes p without records old
    → SameNotes old new → new.records ≡ suc (length records) → seen_in p without r ≡ None → new.passed ≡ passed_over p without (records ++ r ∷ [])
    → AreTimes new.zero_is_no_time (records ++ r ∷ []) new.times → new.last ≡ last_inside p new.zero_is_no_time (records ++ r ∷ [])
    → AreNotes p without (records ++ r ∷ []) new
passed p without records r old new h same next none sorted timed last =
    let all = sym (all-none p without records r none) in record {
      read = next ∙ sym (add-one (length records)) ∙ sym (length_push records r);
      packets = ap (λ v. v.items) same.packets ∙ h.packets ∙ ap (λ z. map (sighting_of z) (seen_inside p without records)) (sym same.untimed)
          ∙ ap (λ l. map (sighting_of new.zero_is_no_time) (filter (is_inside p) l)) all;
      channels = same.channels ∙ h.channels ∙ ap (λ l. counts_of (filter (is_inside p) l)) all;
      before = same.before ∙ h.before ∙ ap (λ l. length (filter (is_before p) l)) all;
      behind = same.behind ∙ h.behind ∙ ap (λ l. length (filter (is_behind p) l)) all;
      passed = sorted;
      times = timed;
      last = last;
      taped = same_tape old.tape new.tape _ _ same.tape h.taped (ap (λ l. map numbered_seen (filter (is_inside p) l)) all);
    }

-- ---- the last record of the window

abbrev last_told : ℕ → Option CaptureTime → Option LastRecord
last_told number time = Some (record { number = number; time = time })

last_by : (p : Parameters) (none : Bool) (records : List Captured) (r : Captured) (b : Bool) → stands_inside p r ≡ b
    → last_inside p none (records ++ r ∷ []) ≡ cond b (Some (last_record_of none r)) (last_inside p none records)
last_by p none records r true e =
    ap (λ l. option_map (last_record_of none) (last_or None l)) (filter-append (stands_inside p) records (r ∷ [])
    ∙ ap (λ c. filter (stands_inside p) records ++ cond c (r ∷ []) []) e)
    ∙ ap (option_map (last_record_of none)) (last_or-push None (filter (stands_inside p) records) r)
last_by p none records r false e =
    ap (λ l. option_map (last_record_of none) (last_or None l)) (filter-append (stands_inside p) records (r ∷ [])
    ∙ ap (λ c. filter (stands_inside p) records ++ cond c (r ∷ []) []) e ∙ append-nil _)

-- a record of the window is the last one
pub last_here : (p : Parameters) (none : Bool) (records : List Captured) (r : Captured) (number : ℕ) (time : Option CaptureTime) → r.number ≡ number
    → time ≡ time_of none r → p.first_record ≤ number → number ≤ p.last_record → last_told number time ≡ last_inside p none (records ++ r ∷ [])
last_here p none records r number time numbered timed first last =
    ap (λ n. last_told n time) (sym numbered) ∙ ap (last_told r.number) timed
    ∙ sym (last_by p none records r true (grind (arith, nat_tests, numbered, first, last)))

-- another one leaves the last one
pub last_before : (p : Parameters) (none : Bool) (records : List Captured) (r : Captured) (last : Option LastRecord) → last ≡ last_inside p none records
    → r.number < p.first_record → last ≡ last_inside p none (records ++ r ∷ [])
last_before p none records r last is before = is ∙ sym (last_by p none records r false (grind (arith, nat_tests, before)))

pub last_behind : (p : Parameters) (none : Bool) (records : List Captured) (r : Captured) (last : Option LastRecord) → last ≡ last_inside p none records
    → p.last_record < r.number → last ≡ last_inside p none (records ++ r ∷ [])
last_behind p none records r last is behind = is ∙ sym (last_by p none records r false (grind (arith, nat_tests, behind)))

-- ---- one with a packet

module _ (p : Parameters) (without : List ℕ) (records : List Captured) (s : Seen) (some : seen_in p without s.captured ≡ Some s) where
  all-some : all_seen p without (records ++ s.captured ∷ []) ≡ all_seen p without records ++ s ∷ []
  all-some = filter_map-append (seen_in p without) records (s.captured ∷ []) ∙ ap (λ o. all_seen p without records ++ cons_option o []) some

  filtered : (test : Seen → Bool) (b : Bool) → test s ≡ b
      → filter test (all_seen p without (records ++ s.captured ∷ [])) ≡ filter test (all_seen p without records) ++ cond b (s ∷ []) []
  filtered test b e = ap (filter test) all-some ∙ filter-append test (all_seen p without records) (s ∷ [])
      ∙ ap (λ c. filter test (all_seen p without records) ++ cond c (s ∷ []) []) e

  without_it : (test : Seen → Bool) → test s ≡ false → filter test (all_seen p without (records ++ s.captured ∷ [])) ≡ filter test (all_seen p without records)
  without_it test e = filtered test false e ∙ append-nil _

  one_more : (test : Seen → Bool) → test s ≡ true
      → length (filter test (all_seen p without (records ++ s.captured ∷ []))) ≡ length (filter test (all_seen p without records)) + 1
  one_more test e = ap length (filtered test true e) ∙ length-append (filter test (all_seen p without records)) (s ∷ [])

  -- the notes after it, as far as they don't depend on where it stands
  pub record Grows (old new : Notes) : Type 0 where
    pub noted : AreNotes p without records old
    pub untimed : new.zero_is_no_time ≡ old.zero_is_no_time
    pub next : new.records ≡ suc (length records)
    pub passed : new.passed ≡ passed_over p without (records ++ s.captured ∷ [])
    pub times : AreTimes new.zero_is_no_time (records ++ s.captured ∷ []) new.times
    pub last : new.last ≡ last_inside p new.zero_is_no_time (records ++ s.captured ∷ [])

  read_next : (old new : Notes) → Grows old new → new.records ≡ length (records ++ s.captured ∷ [])
  read_next old new g = g.next ∙ sym (add-one (length records)) ∙ sym (length_push records s.captured)

  -- the packets so far, as they are told after it
  packets_so_far : (old new : Notes) → Grows old new → old.packets.items ≡ map (sighting_of new.zero_is_no_time) (seen_inside p without records)
  packets_so_far old new g = g.noted.packets ∙ ap (λ z. map (sighting_of z) (seen_inside p without records)) (sym g.untimed)

  not_inside_before : is_before p s ≡ true → is_inside p s ≡ false
  not_inside_before e = ap (λ b. not b && nat_le s.captured.number p.last_record) e

  not_behind_before : is_before p s ≡ true → is_behind p s ≡ false
  not_behind_before e = ap (λ b. not b && not (nat_le s.captured.number p.last_record)) e

  pub before_window : (old new : Notes) → Grows old new → new.packets ≡ old.packets → new.channels ≡ old.channels → new.tape ≡ old.tape
      → new.before ≡ old.before + 1 → new.behind ≡ old.behind → is_before p s ≡ true → AreNotes p without (records ++ s.captured ∷ []) new
  before_window old new g packets channels tape before behind e =
      let inside = sym (without_it (is_inside p) (not_inside_before e)) in record {
        read = read_next old new g;
        packets = ap (λ v. v.items) packets ∙ packets_so_far old new g ∙ ap (map (sighting_of new.zero_is_no_time)) inside;
        channels = channels ∙ g.noted.channels ∙ ap counts_of inside;
        before = before ∙ ap (λ n. n + 1) g.noted.before ∙ sym (one_more (is_before p) e);
        behind = behind ∙ g.noted.behind ∙ ap length (sym (without_it (is_behind p) (not_behind_before e)));
        passed = g.passed;
        times = g.times;
        last = g.last;
        taped = same_tape old.tape new.tape _ _ tape g.noted.taped (ap (map numbered_seen) inside);
      }

  pub behind_window : (old new : Notes) → Grows old new → new.packets ≡ old.packets → new.channels ≡ old.channels → new.tape ≡ old.tape
      → new.before ≡ old.before → new.behind ≡ old.behind + 1 → is_before p s ≡ false → is_inside p s ≡ false → is_behind p s ≡ true
      → AreNotes p without (records ++ s.captured ∷ []) new
  behind_window old new g packets channels tape before behind not_before not_inside e =
      let inside = sym (without_it (is_inside p) not_inside) in record {
        read = read_next old new g;
        packets = ap (λ v. v.items) packets ∙ packets_so_far old new g ∙ ap (map (sighting_of new.zero_is_no_time)) inside;
        channels = channels ∙ g.noted.channels ∙ ap counts_of inside;
        before = before ∙ g.noted.before ∙ ap length (sym (without_it (is_before p) not_before));
        behind = behind ∙ ap (λ n. n + 1) g.noted.behind ∙ sym (one_more (is_behind p) e);
        passed = g.passed;
        times = g.times;
        last = g.last;
        taped = same_tape old.tape new.tape _ _ tape g.noted.taped (ap (map numbered_seen) inside);
      }

  -- one packet more is kept
  abbrev pub OneMore : Notes → Notes → Type 0
  OneMore old new = (new.tape.is_kept ≡ old.tape.is_kept) × (new.tape.is_kept ≡ true → taped_in new.tape ≡ taped_in old.tape ++ numbered_seen s ∷ [])

  more_taped : (old new : Notes) → Grows old new → OneMore old new → new.tape.is_kept ≡ true
      → taped_in new.tape ≡ map numbered_seen (seen_inside p without records) ++ numbered_seen s ∷ []
  more_taped old new g more kept = more.1 kept ∙ ap (λ l. l ++ numbered_seen s ∷ []) (g.noted.taped (sym more.0 ∙ kept))

  pub in_window : (old new : Notes) → Grows old new → OneMore old new → new.packets.items ≡ old.packets.items ++ sighting_of new.zero_is_no_time s ∷ []
      → new.channels ≡ counts_of (seen_inside p without records ++ s ∷ []) → new.before ≡ old.before → new.behind ≡ old.behind
      → is_before p s ≡ false → is_inside p s ≡ true → is_behind p s ≡ false → AreNotes p without (records ++ s.captured ∷ []) new
  in_window old new g tape packets channels before behind not_before e not_behind =
      let inside = sym (filtered (is_inside p) true e) in record {
        read = read_next old new g;
        packets = packets ∙ ap (λ l. l ++ sighting_of new.zero_is_no_time s ∷ []) (packets_so_far old new g)
            ∙ sym (map_push (sighting_of new.zero_is_no_time) (seen_inside p without records) s) ∙ ap (map (sighting_of new.zero_is_no_time)) inside;
        channels = channels ∙ ap counts_of inside;
        before = before ∙ g.noted.before ∙ ap length (sym (without_it (is_before p) not_before));
        behind = behind ∙ g.noted.behind ∙ ap length (sym (without_it (is_behind p) not_behind));
        passed = g.passed;
        times = g.times;
        last = g.last;
        taped = λ kept. more_taped old new g tape kept ∙ sym (map_push numbered_seen (seen_inside p without records) s) ∙ ap (map numbered_seen) inside;
      }

-- ---- counts of the channels

abbrev of_both : ℕ → ℕ → ChannelCount
of_both client server = record { client = client; server = server }

count_more : (seen : List Seen) (s : Seen) (channel : ℕ) (clients servers : Bool) → is_clients channel s ≡ clients → is_servers channel s ≡ servers
    → count_on (seen ++ s ∷ []) channel ≡ of_both ((count_on seen channel).client + cond clients 1 0) ((count_on seen channel).server + cond servers 1 0)
count_more seen s channel clients servers c d =
    ap (λ n. of_both n (count_on (seen ++ s ∷ []) channel).server) (length_filter-push (is_clients channel) seen s clients c)
    ∙ ap (of_both ((count_on seen channel).client + cond clients 1 0)) (length_filter-push (is_servers channel) seen s servers d)

-- a packet of another channel changes no count
count_other : (seen : List Seen) (s : Seen) (channel : ℕ) → nat_eq s.packet.channel channel ≡ false → count_on (seen ++ s ∷ []) channel ≡ count_on seen channel
count_other seen s channel e =
    count_more seen s channel false false (ap (λ b. b && is_client s.packet.side) e) (ap (λ b. b && not (is_client s.packet.side)) e)
    ∙ ap (λ n. of_both n ((count_on seen channel).server + 0)) (add-zero _) ∙ ap (of_both (count_on seen channel).client) (add-zero _)

count_same : (seen : List Seen) (s : Seen) (channel : ℕ) (side : Side) → nat_eq s.packet.channel channel ≡ true → s.packet.side ≡ side
    → count_on (seen ++ s ∷ []) channel ≡ count_with (count_on seen channel) side
count_same seen s channel Client e is =
    count_more seen s channel true false (ap (λ b. b && is_client s.packet.side) e ∙ ap is_client is) (ap (λ b. b && not (is_client s.packet.side)) e ∙ ap (λ d. not (is_client d)) is)
    ∙ ap (of_both ((count_on seen channel).client + 1)) (add-zero _)
count_same seen s channel Server e is =
    count_more seen s channel false true (ap (λ b. b && is_client s.packet.side) e ∙ ap is_client is) (ap (λ b. b && not (is_client s.packet.side)) e ∙ ap (λ d. not (is_client d)) is)
    ∙ ap (λ n. of_both n ((count_on seen channel).server + 1)) (add-zero _)

-- four counts
abbrev four : ChannelCount → ChannelCount → ChannelCount → ChannelCount → List ChannelCount
four a b c d = a ∷ b ∷ c ∷ d ∷ []

same_four : (a b c d e f g h : ChannelCount) → a ≡ e → b ≡ f → c ≡ g → d ≡ h → four a b c d ≡ four e f g h
same_four a b c d e f g h first second third fourth =
    ap (λ x. four x b c d) first ∙ ap (λ x. four e x c d) second ∙ ap (λ x. four e f x d) third ∙ ap (λ x. four e f g x) fourth

unequal : (n m : ℕ) → n ≢ m → nat_eq n m ≡ false
unequal n m e = grind (arith, nat_tests)

equal : (n m : ℕ) → n ≡ m → nat_eq n m ≡ true
equal n m e = grind (arith, nat_tests)

-- no count changes by a channel that there can't be
pub counts_beyond : (seen : List Seen) (s : Seen) → (s.packet.channel ≡ 0) ⊎ (4 < s.packet.channel) → counts_of (seen ++ s ∷ []) ≡ counts_of seen
counts_beyond seen s beyond =
    let other = λ (n : ℕ) (from : 1 ≤ n) (to : n ≤ 4). count_other seen s n (unequal s.packet.channel n (λ e. ⊎_elim (λ f. omega arith) (λ f. omega arith) beyond)) in
    same_four _ _ _ _ _ _ _ _ (other 1 (omega arith) (omega arith)) (other 2 (omega arith) (omega arith)) (other 3 (omega arith) (omega arith)) (other 4 (omega arith) (omega arith))

one_counted : (seen : List Seen) (s : Seen) (channel : ℕ) (count : ChannelCount) → s.packet.channel ≡ channel → count ≡ count_on seen channel
    → count_with count s.packet.side ≡ count_on (seen ++ s ∷ []) channel
one_counted seen s channel count e is = ap (λ n. count_with n s.packet.side) is ∙ sym (count_same seen s channel s.packet.side (equal _ _ e) refl)

other_kept : (seen : List Seen) (s : Seen) (channel place : ℕ) → s.packet.channel ≡ place → place ≢ channel → count_on (seen ++ s ∷ []) channel ≡ count_on seen channel
other_kept seen s channel place e differs = count_other seen s channel (unequal _ _ (λ f. differs (sym e ∙ f)))

pub counts_within : (seen : List Seen) (s : Seen) (place : ℕ) (count d : ChannelCount) → place < 4 → s.packet.channel ≡ suc place
    → count ≡ get_or (counts_of seen) place d → set (counts_of seen) place (count_with count s.packet.side) ≡ counts_of (seen ++ s ∷ [])
counts_within seen s zero count d within e is =
    same_four _ _ _ _ _ _ _ _ (one_counted seen s 1 count e is) (sym (other_kept seen s 2 _ e (λ f. omega arith))) (sym (other_kept seen s 3 _ e (λ f. omega arith))) (sym (other_kept seen s 4 _ e (λ f. omega arith)))
counts_within seen s (suc zero) count d within e is =
    same_four _ _ _ _ _ _ _ _ (sym (other_kept seen s 1 _ e (λ f. omega arith))) (one_counted seen s 2 count e is) (sym (other_kept seen s 3 _ e (λ f. omega arith))) (sym (other_kept seen s 4 _ e (λ f. omega arith)))
counts_within seen s (suc (suc zero)) count d within e is =
    same_four _ _ _ _ _ _ _ _ (sym (other_kept seen s 1 _ e (λ f. omega arith))) (sym (other_kept seen s 2 _ e (λ f. omega arith))) (one_counted seen s 3 count e is) (sym (other_kept seen s 4 _ e (λ f. omega arith)))
counts_within seen s (suc (suc (suc zero))) count d within e is =
    same_four _ _ _ _ _ _ _ _ (sym (other_kept seen s 1 _ e (λ f. omega arith))) (sym (other_kept seen s 2 _ e (λ f. omega arith))) (sym (other_kept seen s 3 _ e (λ f. omega arith))) (one_counted seen s 4 count e is)
counts_within seen s (suc (suc (suc (suc place)))) count d within e is = absurd (omega arith)

-- ---- bounds

bound_seen : (o : Option Seen) (r : Captured) (seen : List Seen) (records : List Captured) → length seen ≤ length records → length (cons_option o seen) ≤ length (r ∷ records)
bound_seen None r seen records h = omega arith
bound_seen (Some s) r seen records h = omega arith

seen_bound : (p : Parameters) (without : List ℕ) (records : List Captured) → length (all_seen p without records) ≤ length records
seen_bound p without [] = omega arith
seen_bound p without (r ∷ records) = bound_seen (seen_in p without r) r (all_seen p without records) records (seen_bound p without records)

pub filtered_bound : (p : Parameters) (without : List ℕ) (records : List Captured) (test : Seen → Bool) → length (filter test (all_seen p without records)) ≤ length records
filtered_bound p without records test = (let a = length_filter-most test (all_seen p without records) in let b = seen_bound p without records in omega arith)

pub count_bounds : (seen : List Seen) (channel : ℕ) → ((count_on seen channel).client ≤ length seen) × ((count_on seen channel).server ≤ length seen)
count_bounds seen channel = (length_filter-most (is_clients channel) seen, length_filter-most (is_servers channel) seen)

-- ---- a packet by where it stands

saturated : (n bound : ℕ) → n ≤ bound → bound < 4294967296 → min (n + 1) 18446744073709551615 ≡ n + 1
saturated n bound most few = omega arith

module _ (p : Parameters) (without : List ℕ) (records : List Captured) (s : Seen) (some : seen_in p without s.captured ≡ Some s) (old new : Notes)
    (noted : AreNotes p without records old) (next : new.records ≡ suc (length records)) (few : new.records < 4294967296)
    (numbered : s.captured.number ≡ new.records) (same : new.passed ≡ old.passed) (untimed : new.zero_is_no_time ≡ old.zero_is_no_time)
    (timed : AreTimes new.zero_is_no_time (records ++ s.captured ∷ []) new.times)
    (last : new.last ≡ last_inside p new.zero_is_no_time (records ++ s.captured ∷ [])) where
  grows : Grows p without records s some old new
  grows = record { noted = noted; untimed = untimed; next = next; passed = same ∙ noted.passed ∙ sym (passed_over-seen p without records s.captured s some); times = timed; last = last }

  one_counted_more : (n : ℕ) (test : Seen → Bool) → n ≡ length (filter test (all_seen p without records)) → min (n + 1) 18446744073709551615 ≡ n + 1
  one_counted_more n test is = (let most = filtered_bound p without records test in saturated n (length records) (omega (arith, is, most)) (omega (arith, next, few)))

  pub noted_before : new.tape ≡ old.tape → new.packets ≡ old.packets → new.channels ≡ old.channels → new.before ≡ min (old.before + 1) 18446744073709551615 → new.behind ≡ old.behind
      → new.records < p.first_record → AreNotes p without (records ++ s.captured ∷ []) new
  noted_before tape packets channels before behind stands =
      before_window p without records s some old new grows packets channels tape (before ∙ one_counted_more old.before (is_before p) noted.before) behind
      (grind (arith, nat_tests, numbered, stands))

  pub noted_behind : new.tape ≡ old.tape → new.packets ≡ old.packets → new.channels ≡ old.channels → new.before ≡ old.before → new.behind ≡ min (old.behind + 1) 18446744073709551615
      → p.first_record ≤ new.records → p.last_record < new.records → AreNotes p without (records ++ s.captured ∷ []) new
  noted_behind tape packets channels before behind first last =
      let not_before : is_before p s ≡ false = grind (arith, nat_tests, numbered, first) in
      let not_inside : nat_le s.captured.number p.last_record ≡ false = grind (arith, nat_tests, numbered, last) in
      behind_window p without records s some old new grows packets channels tape before (behind ∙ one_counted_more old.behind (is_behind p) noted.behind) not_before
      (ap (λ b. not (is_before p s) && b) not_inside ∙ ap (λ b. not b && false) not_before)
      (ap (λ b. not (is_before p s) && not b) not_inside ∙ ap (λ b. not b && true) not_before)

  pub noted_inside : OneMore p without records s some old new → new.packets.items ≡ old.packets.items ++ sighting_of new.zero_is_no_time s ∷ [] → new.channels ≡ counts_of (seen_inside p without records ++ s ∷ [])
      → new.before ≡ old.before → new.behind ≡ old.behind → p.first_record ≤ new.records → new.records ≤ p.last_record
      → AreNotes p without (records ++ s.captured ∷ []) new
  noted_inside tape packets channels before behind first last =
      let not_before : is_before p s ≡ false = grind (arith, nat_tests, numbered, first) in
      let inside : nat_le s.captured.number p.last_record ≡ true = grind (arith, nat_tests, numbered, last) in
      in_window p without records s some old new grows tape packets channels before behind not_before
      (ap (λ b. not (is_before p s) && b) inside ∙ ap (λ b. not b && true) not_before)
      (ap (λ b. not (is_before p s) && not b) inside ∙ ap (λ b. not b && false) not_before)

pub inside_bound : (p : Parameters) (without : List ℕ) (records : List Captured) (number : ℕ) → number ≡ suc (length records) → number < 4294967296
    → length (seen_inside p without records) < 4294967296
inside_bound p without records number next few = (let most = filtered_bound p without records (is_inside p) in omega (arith, next, few, most))

abbrev sighting : ℕ → Option CaptureTime → ℕ → Side → Sighting
sighting number time channel sender = record { «record» = number; time = time; channel = channel; sender = sender }

pub same_sighting : (z : Bool) (before : List Sighting) (s : Seen) (number : ℕ) (time : Option CaptureTime) (packet : Packet) → s.captured.number ≡ number
    → time ≡ time_of z s.captured → s.packet ≡ packet → before ++ sighting number time packet.channel packet.side ∷ [] ≡ before ++ sighting_of z s ∷ []
same_sighting z before s number time packet numbered timed crossed =
    ap (λ (g : Sighting). before ++ g ∷ []) (ap (λ n. sighting n time packet.channel packet.side) (sym numbered)
    ∙ ap (λ t. sighting s.captured.number t packet.channel packet.side) timed
    ∙ ap (λ (x : Packet). sighting s.captured.number (time_of z s.captured) x.channel x.side) (sym crossed))

count_at : (seen : List Seen) (place : ℕ) (count d : ChannelCount) → place < 4 → count ≡ get_or (counts_of seen) place d → count ≡ count_on seen (suc place)
count_at seen zero count d within e = e
count_at seen (suc zero) count d within e = e
count_at seen (suc (suc zero)) count d within e = e
count_at seen (suc (suc (suc zero))) count d within e = e
count_at seen (suc (suc (suc (suc place)))) count d within e = absurd (omega arith)

-- the count at a place is exchanged for one with a packet more
pub counted : (seen : List Seen) (s : Seen) (channels : List ChannelCount) (place : ℕ) (count d new : ChannelCount) (channel : ℕ) (side : Side) → channels ≡ counts_of seen
    → length seen < 4294967296 → channel ≡ s.packet.channel → side ≡ s.packet.side → place < 4 → channel ≡ suc place → count ≡ get_or channels place d
    → (count.client < 4294967296 → count.server < 4294967296 → new ≡ count_with count side) → set channels place new ≡ counts_of (seen ++ s ∷ [])
counted seen s channels place count d new channel side is few crossed sent within numbered at more =
    let here = subst (λ l. count ≡ get_or l place d) is at in
    let bounds = count_bounds seen (suc place) in
    let same = count_at seen place count d within here in
    let clients : count.client ≤ length seen = subst (λ (n : ChannelCount). n.client ≤ length seen) (sym same) bounds.0 in
    let servers : count.server ≤ length seen = subst (λ (n : ChannelCount). n.server ≤ length seen) (sym same) bounds.1 in
    ap (λ l. set l place new) is ∙ ap (set (counts_of seen) place) (more (omega arith) (omega arith) ∙ ap (count_with count) sent)
    ∙ counts_within seen s place count d within (sym crossed ∙ numbered) here
