-- What a refusal tells of one more record.
use Rattle.std.proofs.Common.{◌≡◌, ◌∙◌, ◌⊎◌, inl, inr, ⊎_elim, ℕ, suc, ◌≤◌, ◌<◌, List, [], ◌∷◌, ◌++◌, length, map, cond, Bool, true, false, not, ◌&&◌, nat_eq, nat_lt, is_some, nat_le, Option, None, Some, Result, Ok, Err, OnOk, IsSomeAnd, ap, refl, sym, subst, slice_get, arith}
use Rattle.std.proofs.lemmas.Bool.Decides.{nat_tests}
use Rattle.std.specs.List.{All, Contains, cons_option}
use Rattle.std.specs.Option.{ForSome, option_and_then}
use Rattle.std.proofs.lemmas.List.Elements.{All-cons, All-contains, All-filter, All-head, All-nil, All-tail, Contains-append_left, Contains-push, Contains-push_cases}
use Rattle.rasta_pcap.specs.declared.fault.Fault.{Fault}
use Rattle.rasta_pcap.specs.declared.fault.Side.{Side}
use Rattle.rasta_pcap.specs.declared.time.CaptureTime.{CaptureTime}
use Rattle.rasta_pcap.specs.Fault.{fault_at, no_memory, too_many}
use Rattle.rasta_pcap.specs.Capture.{Numbered}
use Rattle.rasta_pcap.specs.Captured.{Captured, numbered}
use Rattle.rasta_udp.specs.Frame.{Packet, packet_in}
use Rattle.rasta_pdu.specs.Fields.{field_at}
use Rattle.rasta_pdu.specs.Records.{at_record}
use Rattle.rasta_pdu.specs.Params.{Parameters}
use Rattle.rasta_check.specs.Capture.Building.{crossed_in}
use Rattle.rasta_check.specs.Capture.PacketFaults.{packet_fault}
use Rattle.rasta_check.specs.Capture.Crossing.{Crossing, sent_by}
use Rattle.rasta_check.specs.Capture.Reading.{packet_found, after_found, after_judged, after_packet, after_record, keeps_limits, with_packet}
use Rattle.seatmelon_reading.specs.Codes.{codes_from, codes_next, codes_of, own_codes}
use Rattle.seatmelon_reading.specs.Noted.{AreNotes, Seen, all_seen, is_before, is_inside, is_left_out, seen_by, seen_in, seen_inside, sighting_of}
use Rattle.seatmelon_reading.specs.Passing.{TellsStill}
use Rattle.seatmelon_reading.specs.Told.{AreLower, HasBeenFound, IsAskedFor, IsBeside, IsFound, IsMadeOf, IsSameRefusal, IsTrueOf, due_of, number_beside}
use Rattle.seatmelon_reading.specs.Reading.{HasCrossed, HaveCrossed, IsSameBut}
use Rattle.seatmelon_reading.specs.Times.{is_time, time_of, time_told}
use Rattle.seatmelon_reading.specs.Window.{StandsSo}
use Rattle.seatmelon_reading.specs.declared.code_count.CodeCount.{CodeCount}
use Rattle.seatmelon_reading.specs.declared.pass.Pass.{Pass}
use Rattle.seatmelon_reading.specs.declared.window.WindowPlace.{WindowPlace}
use Rattle.seatmelon_reading.specs.declared.window.WindowPlace.TheVariants.{Before, Behind, Inside}
use Rattle.seatmelon_reading.specs.declared.capture_refusal.Beside.{Beside}
use Rattle.seatmelon_reading.specs.declared.capture_refusal.CaptureRefusal.{CaptureRefusal}
use Rattle.seatmelon_reading.specs.declared.capture_refusal.Wanted.{Wanted}
use Rattle.seatmelon_reading.specs.declared.notes.Notes.{Notes}
use Rattle.seatmelon_reading.specs.declared.notes.Sighting.{Sighting}
use Rattle.seatmelon_reading.proofs.Codes.{captured_of, codes_from-lower, codes_from-most, codes_from-own, codes_from-push, inside_at, inside_none, inside_outside, inside_push, inside_some}
use Rattle.seatmelon_reading.proofs.Crossed.{crossed_seen, seen_at}
use Rattle.seatmelon_reading.proofs.Moments.{told_time}
use Rattle.seatmelon_reading.proofs.Noted.{filtered_bound}
use Rattle.seatmelon_reading.proofs.Sorts.{left_out_none, seen_of}

-- ---- the place of a fault

err_place : (a f : Fault) → ◌≡◌ {A = Result Crossing Fault} (Err a) (Err f) → f.place ≡ a.place
err_place a f e = (let same : a ≡ f = cc in ap (λ (x : Fault). x.place) (sym same))

limits_place : (number : ℕ) (k : Crossing) (b : Bool) (f : Fault) → cond b (Ok k) (Err (fault_at too_many number)) ≡ Err f → f.place ≡ number
limits_place number k true f e = absurd cc
limits_place number k false f e = err_place (fault_at too_many number) f e

judged_place : (k : Crossing) (number : ℕ) (packet : Packet) (fault : Option ℕ) (f : Fault) → after_judged k number packet fault ≡ Err f → f.place ≡ number
judged_place k number packet (Some n) f e = err_place _ f e
judged_place k number packet None f e = limits_place number (with_packet k packet) (keeps_limits (with_packet k packet)) f e

frame_place : (k : Crossing) (number : ℕ) (o : Result (Option Packet) Fault) (f : Fault) → after_found k number (at_record number o) ≡ Err f
    → f.place ≡ number
unfolding after_packet
frame_place k number (Ok None) f e = absurd cc
frame_place k number (Ok (Some packet)) f e = judged_place k number packet (packet_fault k.params (sent_by k packet.side) packet) f e
frame_place k number (Err fault) f e = err_place (fault_at fault.number number) f e

window_place : (k : Crossing) (r : Numbered) (b : Bool) (f : Fault)
    → after_found k r.0 (cond b (Ok None) (at_record r.0 (packet_in k.params.channels r.1))) ≡ Err f → f.place ≡ r.0
window_place k r true f e = absurd cc
window_place k r false f e = frame_place k r.0 (packet_in k.params.channels r.1) f e

-- the fault of a record names it
pub record_place : (k : Crossing) (r : Numbered) (f : Fault) → after_record k r ≡ Err f → f.place ≡ r.0
unfolding after_record
record_place k r f e = window_place k r (nat_lt r.0 k.params.first_record) f e

-- ---- packets of the connection

abbrev sighting_so : ℕ → Option CaptureTime → ℕ → Side → Sighting
sighting_so number time channel sender = record { «record» = number; time = time; channel = channel; sender = sender }

module _ (p : Parameters) (without : List ℕ) (place : ℕ) where
  abbrev Lower : Captured → Type 0
  Lower r = r.number < place

  abbrev IsLower : Seen → Type 0
  IsLower s = Lower s.captured

  lower_option : (o : Option Seen) (l : List Seen) → ((s : Seen) → o ≡ Some s → IsLower s) → All IsLower l → All IsLower (cons_option o l)
  lower_option None l head tail = tail
  lower_option (Some s) l head tail = All-cons IsLower s l (head s refl) tail

  all_lower : (records : List Captured) → AreLower place records → All IsLower (all_seen p without records)
  all_lower [] lower = All-nil IsLower
  all_lower (r ∷ records) lower =
      lower_option (seen_in p without r) (all_seen p without records)
      (λ s e. subst Lower (sym (captured_of p without r s e)) (All-head Lower r records lower))
      (all_lower records (All-tail Lower r records lower))

  -- a packet of lower records is in a lower one
  seen_lower : (records : List Captured) (s : Seen) → AreLower place records → Contains (seen_inside p without records) s → s.captured.number < place
  seen_lower records s lower = All-contains IsLower (seen_inside p without records) s (All-filter (is_inside p) IsLower (all_seen p without records) (all_lower records lower))

-- the packet of a record
pub record IsPacketOf (zero : Bool) (p : Parameters) (without : List ℕ) (q : Captured) (sighting : Sighting) (packet : Packet) : Type 0 where
  pub seen : seen_in p without q ≡ Some (record { captured = q; packet = packet })
  pub inside : is_inside p (record { captured = q; packet = packet }) ≡ true
  pub sighted : sighting ≡ sighting_of zero (record { captured = q; packet = packet })

pub packet_of_record : (zero : Bool) (p : Parameters) (without : List ℕ) (q : Captured) (a : Packet) (number : ℕ) (bytes : List ℕ) (time : Option CaptureTime)
    → packet_in p.channels bytes ≡ Ok (Some a) → numbered q ≡ (number, bytes) → time ≡ time_of zero q → is_left_out without number ≡ false → p.first_record ≤ number
    → number ≤ p.last_record → IsPacketOf zero p without q (sighting_so number time a.channel a.side) a
packet_of_record zero p without q a number bytes time found is timed stays first last =
    let number_is : q.number ≡ number = ap (λ (n : Numbered). n.0) is in
    let bytes_are : q.bytes ≡ bytes = ap (λ (n : Numbered). n.1) is in record {
      seen = seen_of p without q (Ok (Some a)) (ap (is_left_out without) number_is ∙ stays) (ap (packet_in p.channels) bytes_are ∙ found);
      inside = inside_at p (record { captured = q; packet = a }) (omega (arith, number_is, first)) (omega (arith, number_is, last));
      sighted = ap (λ n. sighting_so n time a.channel a.side) (sym number_is) ∙ ap (λ t. sighting_so q.number t a.channel a.side) timed;
    }

-- ---- a record that adds none

module _ (p : Parameters) (without : List ℕ) (records : List Captured) (q : Captured) where
  -- one that is left out
  pub left_out_same : (number : ℕ) (bytes : List ℕ) → numbered q ≡ (number, bytes) → is_left_out without number ≡ true
      → seen_inside p without (records ++ q ∷ []) ≡ seen_inside p without records
  left_out_same number bytes is left_out =
      inside_none p without records q
      (left_out_none p without q (ap (λ (n : Numbered). is_left_out without n.0) is ∙ left_out))

  -- one of which this was read, without a packet
  pub none_same : (number : ℕ) (bytes : List ℕ) (found : Result (Option Packet) Fault) → packet_in p.channels bytes ≡ found → seen_by q found ≡ None → numbered q ≡ (number, bytes)
      → is_left_out without number ≡ false → seen_inside p without (records ++ q ∷ []) ≡ seen_inside p without records
  none_same number bytes found read none is stays =
      inside_none p without records q
      (seen_of p without q found (ap (λ (n : Numbered). is_left_out without n.0) is ∙ stays) (ap (λ (n : Numbered). packet_in p.channels n.1) is ∙ read) ∙ none)

  -- one outside of the window
  pub outside_same : (number : ℕ) (bytes : List ℕ) (place : WindowPlace) → (place ≡ Before) ⊎ (place ≡ Behind) → StandsSo p number place → numbered q ≡ (number, bytes)
      → seen_inside p without (records ++ q ∷ []) ≡ seen_inside p without records
  outside_same number bytes Before outside stands is =
      inside_outside p without records q
      (λ s same.
      let number_is : s.captured.number ≡ number = ap (λ (r : Captured). r.number) same ∙ ap (λ (n : Numbered). n.0) is in
      let before : is_before p s ≡ true = grind (arith, nat_tests, number_is, stands) in
      ap (λ b. not b && nat_le s.captured.number p.last_record) before)
  outside_same number bytes Behind outside stands is =
      inside_outside p without records q
      (λ s same.
      let number_is : s.captured.number ≡ number = ap (λ (r : Captured). r.number) same ∙ ap (λ (n : Numbered). n.0) is in
      let first = stands.0 in
      let last = stands.1 in
      let not_before : is_before p s ≡ false = grind (arith, nat_tests, number_is, first) in
      let behind : nat_le s.captured.number p.last_record ≡ false = grind (arith, nat_tests, number_is, last) in
      ap (λ b. not (is_before p s) && b) behind ∙ ap (λ b. not b && false) not_before)
  outside_same number bytes Inside (inl e) stands is = absurd cc
  outside_same number bytes Inside (inr e) stands is = absurd cc

-- ---- a packet beside the refused one

abbrev number_with : Parameters → Fault → Option ℕ → List ℕ → Option ℕ
number_with p fault next frame =
    cond (nat_eq fault.number 28) next (option_and_then (λ (packet : Packet). field_at 4 4 packet.payload) (packet_found (packet_in p.channels frame)))

number_kept : (p : Parameters) (old new : CaptureRefusal) → IsSameRefusal old new → number_beside p new ≡ number_beside p old
number_kept p old new same =
    ap (λ (f : Fault). number_with p f new.next_number new.frame.items) same.fault
    ∙ ap (λ o. number_with p old.fault o new.frame.items) same.due ∙ ap (number_with p old.fault old.next_number) same.frame

abbrev a_side : Side → Option Side
a_side side = Some side

module _ (zero : Bool) (p : Parameters) (without : List ℕ) (records : List Captured) where
  -- it is told of a refusal that is the same but for what is told beside it
  same_beside : (old new : CaptureRefusal) (b : Beside) → IsSameRefusal old new → IsBeside zero p without records old b → IsBeside zero p without records new b
  same_beside old new b same h = record {
    seen = h.seen;
    read = h.read;
    sighted = h.sighted;
    held = h.held;
    end = ap (λ (f : Fault). f.end) same.fault ∙ h.end;
    number = (h.number.0, number_kept p old new same ∙ h.number.1, h.number.2);
    other = λ e. h.other (e ∙ ap (λ (f : Fault). f.place) same.fault);
  }

  still_beside : (q : Captured) (r : CaptureRefusal) (b : Beside) → IsBeside zero p without records r b → IsBeside zero p without (records ++ q ∷ []) r b
  still_beside q r b h = record {
    seen = h.seen;
    read = subst (λ (l : List Seen). Contains l h.seen) (sym (inside_push p without records q (seen_in p without q) refl)) (Contains-append_left _ _ h.seen h.read);
    sighted = h.sighted;
    held = h.held;
    end = h.end;
    number = h.number;
    other = h.other;
  }

  -- a packet of the connection that is asked for, and found
  found_beside : (r : CaptureRefusal) (wanted : Wanted) (s : Seen) (sighting : Sighting) (packet : Packet) (b : Beside) → IsAskedFor p r wanted → IsFound wanted sighting packet b
      → Contains (seen_inside p without records) s → sighting ≡ sighting_of zero s → packet ≡ s.packet → (s.captured.number ≡ r.fault.place → ⊥) → IsBeside zero p without records r b
  found_beside r wanted s sighting packet b asked found read sighted same other = record {
    seen = s;
    read = read;
    sighted = found.sighted ∙ sighted;
    held = found.held ∙ ap (λ (x : Packet). x.payload) same;
    end = asked.end ∙ ap a_side (sym found.end ∙ ap (λ (x : Packet). x.side) same);
    number = (wanted.number, asked.number, ap (λ (x : Packet). field_at 4 4 x.payload) (sym same) ∙ found.number);
    other = other;
  }

  -- one that crossed before
  first_beside : (k : Crossing) (notes : Notes) (r : CaptureRefusal) (wanted : Option Wanted) (b : Beside) → HaveCrossed p without records k
      → notes.packets.items ≡ map (sighting_of zero) (seen_inside p without records) → AreLower r.fault.place records → ForSome wanted (IsAskedFor p r)
      → IsSomeAnd wanted (λ w. HasBeenFound k notes.packets.items w b) → IsBeside zero p without records r b
  first_beside k notes r None b crossed noted lower asked found = absurd found
  first_beside k notes r (Some wanted) b crossed noted lower asked found =
      let at = seen_at zero (seen_inside p without records) found.place found.sighting found.packet
      (ap (λ l. slice_get l found.place) (sym noted) ∙ found.noted) (ap (λ l. slice_get l found.place) (sym (crossed_seen p without records k crossed)) ∙ found.crossed) in
      let below = seen_lower p without r.fault.place records at.at lower at.read in
      found_beside r wanted at.at found.sighting found.packet b (asked wanted refl) found.found at.read at.sighted at.same (λ e. omega (arith, below, e))

-- that of a later record
later_beside : (zero : Bool) (p : Parameters) (without : List ℕ) (records : List Captured) (q : Captured) (r : CaptureRefusal) (wanted : Option Wanted) (sighting : Sighting)
    (packet : Packet) (b : Beside) → IsPacketOf zero p without q sighting packet → r.fault.place < q.number → ForSome wanted (IsAskedFor p r)
    → IsSomeAnd wanted (λ w. IsFound w sighting packet b) → IsBeside zero p without (records ++ q ∷ []) r b
later_beside zero p without records q r None sighting packet b here later asked found = absurd found
later_beside zero p without records q r (Some wanted) sighting packet b here later asked found =
    let s : Seen = record { captured = q; packet = packet } in
    found_beside zero p without (records ++ q ∷ []) r wanted s sighting packet b (asked wanted refl) found
    (subst (λ (l : List Seen). Contains l s) (sym (inside_some p without records q s here.seen here.inside)) (Contains-push (seen_inside p without records) s))
    here.sighted refl (λ e. omega (arith, later, e))

-- ---- the record of a refusal

abbrev Held : Bool → List Captured → CaptureRefusal → Type 0
Held zero records r = (c : Captured) → Contains records c → c.number ≡ r.fault.place → (r.time ≡ time_of zero c) × (r.frame.items ≡ c.bytes)

-- it is none of lower ones
lower_held : (zero : Bool) (records : List Captured) (r : CaptureRefusal) → AreLower r.fault.place records → Held zero records r
lower_held zero records r lower c there e =
    let below = All-contains (λ (x : Captured). x.number < r.fault.place) records c lower there in
    absurd (omega (arith, below, e))

same_held : (zero : Bool) (records : List Captured) (old new : CaptureRefusal) → IsSameRefusal old new → Held zero records old → Held zero records new
same_held zero records old new same h c there e =
    let is = h c there (e ∙ ap (λ (f : Fault). f.place) same.fault) in
    (same.time ∙ is.0, same.frame ∙ is.1)

module _ (zero : Bool) (records : List Captured) (q : Captured) (r : CaptureRefusal) where
  still_held : r.fault.place < q.number → Held zero records r → Held zero (records ++ q ∷ []) r
  still_held later h c there e = ⊎_elim
      (λ (before : Contains records c). h c before e)
      (λ (this : q ≡ c). (let number = ap (λ (x : Captured). x.number) this in absurd (omega (arith, later, number, e))))
      (Contains-push_cases records q c there)

  own_held : AreLower r.fault.place records → r.time ≡ time_of zero q → r.frame.items ≡ q.bytes → Held zero (records ++ q ∷ []) r
  own_held lower time frame c there e = ⊎_elim
      (λ (before : Contains records c). lower_held zero records r lower c before e)
      (λ (this : q ≡ c). subst (λ (x : Captured). (r.time ≡ time_of zero x) × (r.frame.items ≡ x.bytes)) this (time, frame))
      (Contains-push_cases records q c there)

-- ---- a refusal

module _ (zero : Bool) (p : Parameters) (without : List ℕ) (records : List Captured) (q : Captured) where
  still_true : (r : CaptureRefusal) → seen_inside p without (records ++ q ∷ []) ≡ seen_inside p without records → r.fault.place < q.number
      → IsTrueOf zero p without records r → IsTrueOf zero p without (records ++ q ∷ []) r
  still_true r same later h = record {
    timed = λ t e. (let c = h.timed t e in record { captured = c.captured; read = Contains-append_left records (q ∷ []) c.captured c.read; numbered = c.numbered; timed = c.timed; held = c.held });
    genuine = h.genuine;
    held = still_held zero records q r later h.held;
    beside = λ b e. still_beside zero p without records q r b (h.beside b e);
    codes = h.codes ∙ ap (codes_from p r.fault.place) (sym same);
  }

  pub still_next : (o : Option CaptureRefusal) (number : ℕ) (bytes : List ℕ) → numbered q ≡ (number, bytes) → seen_inside p without (records ++ q ∷ []) ≡ seen_inside p without records
      → ForSome o (λ r. r.fault.place < number) → ForSome o (IsTrueOf zero p without records) → ForSome o (IsTrueOf zero p without (records ++ q ∷ []))
  still_next o number bytes is same later h r e =
      still_true r same (subst (λ n. r.fault.place < n) (sym (ap (λ (x : Numbered). x.0) is)) (later r e)) (h r e)

  -- one that is made of the record
  made_true : (k : Crossing) (f : Fault) (bytes : List ℕ) (time : Option CaptureTime) (notes : Notes) (r : CaptureRefusal) → notes.zero_is_no_time ≡ zero → AreNotes p without records notes
      → HaveCrossed p without records k → IsMadeOf p k f bytes time notes r → f.place ≡ q.number → q.bytes ≡ bytes → time ≡ Some q.time → AreLower q.number records
      → is_left_out without q.number ≡ false → p.first_record ≤ q.number → q.number ≤ p.last_record → IsTrueOf zero p without (records ++ q ∷ []) r
  made_true k f bytes time notes r untimed noted crossed made place held timed lower stays first last =
      let time_is : r.time ≡ time_of zero q = made.time ∙ ap (time_told notes.zero_is_no_time) timed ∙ ap (λ z. time_of z q) untimed in
      let told = λ (t : CaptureTime) (e : r.time ≡ Some t). told_time zero t q.time (sym e ∙ time_is) in
      let place_is : r.fault.place ≡ q.number = ap (λ (x : Fault). x.place) made.fault ∙ place in
      let below = subst (λ n. AreLower n records) (sym place_is) lower in record {
        timed = λ t e. record {
          captured = q;
          read = Contains-push records q;
          numbered = sym place_is;
          timed = sym (told t e).0;
          held = held ∙ sym made.frame;
        };
        genuine = λ t e. subst (λ (u : CaptureTime). is_time zero u ≡ true) (sym (told t e).0) (told t e).1;
        held = own_held zero records q r below time_is (made.frame ∙ sym held);
        beside = λ b e. still_beside zero p without records q r b
            (first_beside zero p without records k notes r r.wanted b crossed (noted.packets ∙ ap (λ z. map (sighting_of z) (seen_inside p without records)) untimed) below made.wanted
            (made.beside b e));
        codes = made.codes ∙ ap (own_codes p bytes) timed ∙ ap (λ b. codes_of p (packet_found (packet_in p.channels b))) (sym held)
            ∙ sym (codes_from-own p without records q lower stays first last)
            ∙ ap (λ n. codes_from p n (seen_inside p without (records ++ q ∷ []))) (sym place_is);
      }

  -- one that looked at the packet of the record
  looked_true : (s : Sighting) (a : Packet) (old new : CaptureRefusal) → IsTrueOf zero p without records old → IsSameRefusal old new
      → ForSome new.beside (λ b. (old.beside ≡ Some b) ⊎ IsSomeAnd old.wanted (λ w. IsFound w s a b)) → ForSome old.wanted (IsAskedFor p old) → IsPacketOf zero p without q s a
      → old.fault.place < q.number → new.codes ≡ codes_from p old.fault.place (seen_inside p without (records ++ q ∷ [])) → IsTrueOf zero p without (records ++ q ∷ []) new
  looked_true s a old new h same beside asked here later codes = record {
    timed = λ t e. (let c = h.timed t (sym same.time ∙ e) in record {
      captured = c.captured;
      read = Contains-append_left records (q ∷ []) c.captured c.read;
      numbered = c.numbered ∙ ap (λ (x : Fault). x.place) (sym same.fault);
      timed = c.timed;
      held = c.held ∙ sym same.frame;
    });
    genuine = λ t e. h.genuine t (sym same.time ∙ e);
    held = same_held zero (records ++ q ∷ []) old new same (still_held zero records q old later h.held);
    beside = λ b e. same_beside zero p without (records ++ q ∷ []) old new b same (⊎_elim
        (λ (before : old.beside ≡ Some b). still_beside zero p without records q old b (h.beside b before))
        (λ (this : IsSomeAnd old.wanted (λ w. IsFound w s a b)). later_beside zero p without records q old old.wanted s a b here later asked this)
        (beside b e));
    codes = codes ∙ ap (λ (x : Fault). codes_from p x.place (seen_inside p without (records ++ q ∷ []))) (sym same.fault);
  }

  pub looked_next : (s : Sighting) (a : Packet) (number : ℕ) (bytes : List ℕ) (o : Option CaptureRefusal) (old new : CaptureRefusal) → numbered q ≡ (number, bytes) → o ≡ Some old → ForSome o (IsTrueOf zero p without records) → IsSameRefusal old new
      → ForSome new.beside (λ b. (old.beside ≡ Some b) ⊎ IsSomeAnd old.wanted (λ w. IsFound w s a b)) → ForSome o (λ r. ForSome r.wanted (IsAskedFor p r)) → IsPacketOf zero p without q s a
      → ForSome o (λ r. r.fault.place < number) → (IsTrueOf zero p without records old → new.codes ≡ codes_from p old.fault.place (seen_inside p without (records ++ q ∷ [])))
      → (r : CaptureRefusal) → ◌≡◌ {A = Option CaptureRefusal} (Some new) (Some r) → IsTrueOf zero p without (records ++ q ∷ []) r
  looked_next s a number bytes o old new numbers is h same beside asked here later codes r e =
      let this : new ≡ r = cc in
      let below = subst (λ n. old.fault.place < n) (sym (ap (λ (x : Numbered). x.0) numbers)) (later old is) in
      subst (IsTrueOf zero p without (records ++ q ∷ [])) this (looked_true s a old new (h old is) same beside (asked old is) here below (codes (h old is)))

  -- the codes that it counts
  pub looked_codes : (a : Packet) (number : ℕ) (bytes : List ℕ) (old new : CaptureRefusal) → packet_in p.channels bytes ≡ Ok (Some a) → numbered q ≡ (number, bytes)
      → is_left_out without number ≡ false → p.first_record ≤ number → number ≤ p.last_record → number ≡ suc (length records) → number < 4294967296
      → (old.codes.judged < 4294967296 → old.codes.fitting < 4294967296 → new.codes ≡ codes_next p old.fault.place number a old.codes) → IsTrueOf zero p without records old
      → new.codes ≡ codes_from p old.fault.place (seen_inside p without (records ++ q ∷ []))
  looked_codes a number bytes old new found is stays first last count few codes h =
      let number_is : q.number ≡ number = ap (λ (n : Numbered). n.0) is in
      let bytes_are : q.bytes ≡ bytes = ap (λ (n : Numbered). n.1) is in
      let s : Seen = record { captured = q; packet = a } in
      let some : seen_in p without q ≡ Some s = seen_of p without q (Ok (Some a)) (ap (is_left_out without) number_is ∙ stays) (ap (packet_in p.channels) bytes_are ∙ found) in
      let grown = inside_some p without records q s some (inside_at p s (omega (arith, number_is, first)) (omega (arith, number_is, last))) in
      let inside = filtered_bound p without records (is_inside p) in
      let most = codes_from-most p old.fault.place (seen_inside p without records) s in
      let judged : old.codes.judged ≤ length (seen_inside p without records) = subst (λ (c : CodeCount). c.judged ≤ length (seen_inside p without records)) (sym h.codes) most.0 in
      let fitting : old.codes.fitting ≤ length (seen_inside p without records) = subst (λ (c : CodeCount). c.fitting ≤ length (seen_inside p without records)) (sym h.codes) most.1 in
      codes (omega (arith, judged, inside, count, few)) (omega (arith, fitting, inside, count, few))
      ∙ ap (λ n. codes_next p old.fault.place n a old.codes) (sym number_is) ∙ ap (codes_next p old.fault.place q.number a) h.codes
      ∙ sym (codes_from-push p old.fault.place (seen_inside p without records) s) ∙ ap (codes_from p old.fault.place) (sym grown)

  -- the refusal of the record itself
  pub made_next : (k n : Crossing) (f : Fault) (number : ℕ) (bytes : List ℕ) (time : Option CaptureTime) (notes : Notes) (o : Option CaptureRefusal)
      → notes.zero_is_no_time ≡ zero → n ≡ k → HaveCrossed p without records k → ForSome o (IsMadeOf p n f bytes time notes) → AreNotes p without records notes
      → (f ≡ no_memory) ⊎ (after_record k (number, bytes) ≡ Err f) → (f ≡ no_memory → ⊥)
      → numbered q ≡ (number, bytes) → time ≡ Some q.time → AreLower number records → is_left_out without number ≡ false → p.first_record ≤ number → number ≤ p.last_record
      → ForSome o (IsTrueOf zero p without (records ++ q ∷ []))
  made_next k n f number bytes time notes o untimed same crossed made noted why known is timed lower stays first last r e =
      let number_is : q.number ≡ number = ap (λ (x : Numbered). x.0) is in ⊎_elim
      (λ (none : f ≡ no_memory). absurd (known none))
      (λ (fails : after_record k (number, bytes) ≡ Err f).
      made_true n f bytes time notes r untimed noted (subst (HaveCrossed p without records) (sym same) crossed) (made r e)
      (record_place k (number, bytes) f fails ∙ sym number_is) (ap (λ (x : Numbered). x.1) is) timed
      (subst (λ m. AreLower m records) (sym number_is) lower) (ap (is_left_out without) number_is ∙ stays) (omega (arith, number_is, first)) (omega (arith, number_is, last)))
      why

-- one of a record that wasn't read whole
ended_true : (p : Parameters) (without : List ℕ) (records : List Captured) (k : Crossing) (f : Fault) (bytes : List ℕ) (notes : Notes) (r : CaptureRefusal) → AreNotes p without records notes
    → HaveCrossed p without records k → IsMadeOf p k f bytes None notes r → AreLower f.place records → IsTrueOf notes.zero_is_no_time p without records r
ended_true p without records k f bytes notes r noted crossed made lower =
    let below = subst (λ (x : Fault). AreLower x.place records) (sym made.fault) lower in record {
      timed = λ t e. (let none : ◌≡◌ {A = Option CaptureTime} None (Some t) = sym made.time ∙ e in absurd cc);
      genuine = λ t e. (let none : ◌≡◌ {A = Option CaptureTime} None (Some t) = sym made.time ∙ e in absurd cc);
      held = lower_held notes.zero_is_no_time records r below;
      beside = λ b e. first_beside notes.zero_is_no_time p without records k notes r r.wanted b crossed noted.packets below made.wanted (made.beside b e);
      codes = made.codes ∙ sym (codes_from-lower p without f.place records lower) ∙ ap (λ (x : Fault). codes_from p x.place (seen_inside p without records)) (sym made.fault);
    }

pub true_as : (z y : Bool) (p q : Parameters) (v w : List ℕ) (records : List Captured) (o : Option CaptureRefusal) → z ≡ y → p ≡ q → v ≡ w
    → ForSome o (IsTrueOf z p v records) → ForSome o (IsTrueOf y q w records)
true_as z y p q v w records o d e f h = λ r is.
    subst (λ (x : List ℕ). IsTrueOf y q x records r) f (subst (λ (x : Parameters). IsTrueOf y x v records r) e (subst (λ (x : Bool). IsTrueOf x p v records r) d (h r is)))

-- ---- what a refusal on its way keeps

one_refusal : (a b : CaptureRefusal) → ◌≡◌ {A = Option CaptureRefusal} (Some a) (Some b) → a ≡ b
one_refusal a b e = cc

pub same_due : (k : Crossing) (o : Option CaptureRefusal) (old new : CaptureRefusal) → o ≡ Some old → IsSameRefusal old new
    → ForSome o (λ (x : CaptureRefusal). x.next_number ≡ due_of k x.fault) → ForSome (Some new) (λ (x : CaptureRefusal). x.next_number ≡ due_of k x.fault)
same_due k o old new is same due x e =
    subst (λ (y : CaptureRefusal). y.next_number ≡ due_of k y.fault) (one_refusal new x e) (same.due ∙ due old is ∙ ap (due_of k) (sym same.fault))

still_asked : (p : Parameters) (old new : CaptureRefusal) → IsSameRefusal old new → ForSome old.wanted (IsAskedFor p old) → ForSome new.wanted (IsAskedFor p new)
still_asked p old new same asked w e =
    let h = asked w (sym same.wanted ∙ e) in
    record { end = ap (λ (f : Fault). f.end) same.fault ∙ h.end; number = number_kept p old new same ∙ h.number }

pub same_wanted : (p : Parameters) (o : Option CaptureRefusal) (old new : CaptureRefusal) → o ≡ Some old → IsSameRefusal old new
    → ForSome o (λ (x : CaptureRefusal). ForSome x.wanted (IsAskedFor p x)) → ForSome (Some new) (λ (x : CaptureRefusal). ForSome x.wanted (IsAskedFor p x))
same_wanted p o old new is same asked x e =
    subst (λ (y : CaptureRefusal). ForSome y.wanted (IsAskedFor p y)) (one_refusal new x e) (still_asked p old new same (asked old is))

pub same_fault : (P : Fault → Type 0) (o : Option CaptureRefusal) (old new : CaptureRefusal) → o ≡ Some old → IsSameRefusal old new
    → ForSome o (λ (x : CaptureRefusal). P x.fault) → ForSome (Some new) (λ (x : CaptureRefusal). P x.fault)
same_fault P o old new is same h x e = subst (λ (y : CaptureRefusal). P y.fault) (one_refusal new x e) (subst P (sym same.fault) (h old is))

pub none_of : (o : Option CaptureRefusal) (b : Bool) → is_some o ≡ not b → b ≡ true → o ≡ None
none_of None b e f = refl
none_of (Some r) b e f = (let h : true ≡ false = e ∙ ap not f in absurd cc)

-- where nothing was refused, nothing is told
pub none_true : (P : CaptureRefusal → Type 0) (o : Option CaptureRefusal) → o ≡ None → ForSome o P
none_true P None none = λ r e. absurd cc
none_true P (Some refusal) none = absurd cc

-- at the end, what was true still is
pub ended_still : {A : Type 0} (result : Result A Fault) (old new : Pass) (f : Fault) (bytes : List ℕ) → old.refusal ≡ None
    → OnOk result (ForSome new.refusal (IsMadeOf old.params (crossed_in old.builder) f bytes None old.notes)) → IsSameBut old new → OnOk result (TellsStill old new f.place)
ended_still (Ok x) old new f bytes none made kept = λ records passed.
    true_as old.notes.zero_is_no_time new.notes.zero_is_no_time old.params new.params old.without.now new.without.now records new.refusal
    (ap (λ (n : Notes). n.zero_is_no_time) (sym kept.notes)) (sym kept.params) (sym kept.without)
    (λ r e. ended_true old.params old.without.now records (crossed_in old.builder) f bytes old.notes r passed.noted
    (subst (HasCrossed old.params old.without.now records (crossed_in old.builder)) none passed.stored) (made r e) passed.lower)
ended_still (Err e) old new f bytes none made kept = tt
