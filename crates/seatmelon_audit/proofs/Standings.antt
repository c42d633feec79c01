-- A connection with one record more.
use Rattle.std.proofs.Common.{◌≡◌, ◌∙◌, ◌⊎◌, inl, inr, ℕ, zero, suc, ◌-◌, ◌<◌, ◌≤◌, List, [], ◌∷◌, ◌++◌, length, map, cond, Bool, true, false, ◌&&◌, nat_le, Option, None, Some, Result, Ok, Err, ap, refl, sym, subst, append-nil, arith}
use Rattle.std.proofs.lemmas.Bool.Decides.{nat_tests}
use Rattle.std.proofs.lemmas.List.{length_push, map-append, take-append-le, take_all}
use Rattle.std.proofs.lemmas.List.Elements.{filter-append}
use Rattle.std.specs.List.{last_or}
use Rattle.std.specs.Option.{option_map, option_or}
use Rattle.std.specs.Prelude.{filter_map, is_some, option_to_list, slice_get}
use Rattle.rasta_pcap.specs.declared.fault.Fault.{Fault}
use Rattle.rasta_pcap.specs.declared.time.CaptureTime.{CaptureTime}
use Rattle.rasta_pcap.specs.Capture.{Numbered}
use Rattle.rasta_pcap.specs.Captured.{Captured, numbered}
use Rattle.rasta_udp.specs.Frame.{Packet}
use Rattle.rasta_pdu.specs.Params.{Parameters}
use Rattle.rasta_check.specs.Capture.Crossing.{Crossing, nothing_crossed}
use Rattle.rasta_check.specs.Capture.Reading.{after_record, after_records, then_crossing, packet_at}
use Rattle.rasta_check.proofs.Lists.{get_next, slice_get_some}
use Rattle.rasta_check.specs.declared.shown.Shown.{Shown}
use Rattle.rasta_check.specs.declared.store_builder.StoreBuilder.{StoreBuilder}
use Rattle.seatmelon_middle.specs.Packets.{opens_first}
use Rattle.seatmelon_middle.specs.declared.course.Course.{Course}
use Rattle.seatmelon_reading.proofs.Stored.{pushed}
use Rattle.seatmelon_reading.proofs.Told.{record_place}
use Rattle.rasta_check.specs.Capture.Building.{crossed_in}
use Rattle.seatmelon_audit.specs.Lines.{IsJudged, IsLine, IsWithin, Passes, Stands, TakesIn}
use Rattle.seatmelon_audit.specs.declared.line.Line.{Line}
use Rattle.seatmelon_audit.specs.Records.{IsJudgedSo, IsStanding, crossed_before, crossed_by, holding, holds_packet, pushed_at, span_of, span_with, stamp_at, stamp_of, stamps_at, stamps_held, subject_at, subject_of}
use Rattle.seatmelon_audit.specs.Shown.{IsFollowed, IsShowing, opens_by, opens_with, packets_held}
use Rattle.seatmelon_audit.specs.declared.line.Span.{Span}
use Rattle.seatmelon_audit.specs.declared.line.Stamp.{Stamp}
use Rattle.seatmelon_audit.specs.declared.line.Standing.{Standing}
use Rattle.seatmelon_audit.specs.declared.line.Standing.TheVariants.{OutOfMemory, Reading, Refused}
use Rattle.seatmelon_audit.proofs.Knowing.{split}
use Rattle.seatmelon_audit.proofs.Showing.{crossed_held, held_inside, held_none, opens_more}

abbrev Outcome : Type 0
Outcome = Result Crossing Fault

abbrev ok : Crossing → Outcome
ok k = Ok k

-- ---- what crosses by one record more

front : (q : Captured) (xs : List Captured) (i : ℕ) (x : Captured) → slice_get xs i ≡ Some x → slice_get (xs ++ q ∷ []) i ≡ Some x
front q [] i x e = absurd cc
front q (y ∷ xs) zero x e = e
front q (y ∷ xs) (suc i) x e = front q xs i x e

crossed_none : (p : Parameters) → crossed_by p [] ≡ Ok (nothing_crossed p)
unfolding after_records
crossed_none p = ap (λ l. after_records (nothing_crossed p) (map numbered l) None) (take_all p.last_record [] (omega arith))

-- ---- the first and the last of more

last_more : (o : Option Stamp) (stamps : List Stamp) (stamp : Stamp) → last_or o (stamps ++ stamp ∷ []) ≡ Some stamp
last_more o [] stamp = refl
last_more o (x ∷ stamps) stamp = last_more (Some x) stamps stamp

first_more : (stamps : List Stamp) (stamp : Stamp) → slice_get (stamps ++ stamp ∷ []) 0 ≡ option_or (slice_get stamps 0) (Some stamp)
first_more [] stamp = refl
first_more (x ∷ stamps) stamp = refl

span_more : (stamps : List Stamp) (stamp : Stamp) → span_of (stamps ++ stamp ∷ []) ≡ span_with (span_of stamps) (Some stamp)
span_more stamps stamp =
    ap (λ (o : Option Stamp). record { first = o; last = last_or None (stamps ++ stamp ∷ []) }) (first_more stamps stamp)
    ∙ ap (λ (o : Option Stamp). record { first = option_or (slice_get stamps 0) (Some stamp); last = o }) (last_more None stamps stamp)

module _ (p : Parameters) (records : List Captured) (q : Captured) (next : q.number ≡ suc (length records)) where
  abbrev all : List Captured
  all = records ++ q ∷ []

  pub crossed_inside : q.number ≤ p.last_record → crossed_by p all ≡ then_crossing (crossed_by p records) (λ (n : Crossing). after_record n (numbered q))
  crossed_inside inside =
      let size = length_push records q in
      ap (λ l. after_records (nothing_crossed p) (map numbered l) None) (take_all p.last_record all (omega (arith, next, inside, size)))
      ∙ ap (λ l. after_records (nothing_crossed p) l None) (map-append numbered records (q ∷ []))
      ∙ pushed (nothing_crossed p) (map numbered records) (numbered q)
      ∙ ap (λ l. then_crossing (after_records (nothing_crossed p) (map numbered l) None) (λ (n : Crossing). after_record n (numbered q)))
      (sym (take_all p.last_record records (omega (arith, next, inside))))

  pub crossed_behind : p.last_record < q.number → crossed_by p all ≡ crossed_by p records
  crossed_behind behind = ap (λ l. after_records (nothing_crossed p) (map numbered l) None) (take-append-le p.last_record records (q ∷ []) (omega (arith, next, behind)))

  -- ---- its packet

  kept_one : (b : Bool) → map stamp_of (cond b (q ∷ []) []) ≡ cond b (stamp_of q ∷ []) []
  kept_one true = refl
  kept_one false = refl

  stamps_push : (b : Bool) → holds_packet p q ≡ b → map stamp_of (holding p all) ≡ map stamp_of (holding p records) ++ cond b (stamp_of q ∷ []) []
  stamps_push b e = ap (map stamp_of) (filter-append (holds_packet p) records (q ∷ []) ∙ ap (λ c. holding p records ++ cond c (q ∷ []) []) e)
      ∙ map-append stamp_of (holding p records) (cond b (q ∷ []) []) ∙ ap (λ l. map stamp_of (holding p records) ++ l) (kept_one b)

  pub stamps_inside : q.number ≤ p.last_record → map stamp_of (holding p all) ≡ map stamp_of (holding p records) ++ stamps_at p (numbered q) q.time
  stamps_inside inside =
      let within : nat_le q.number p.last_record ≡ true = grind (arith, nat_tests, inside) in
      stamps_push (is_some (packet_at p (numbered q))) (ap (λ b. b && is_some (packet_at p (numbered q))) within)

  pub stamps_none : holds_packet p q ≡ false → map stamp_of (holding p all) ≡ map stamp_of (holding p records)
  stamps_none e = stamps_push false e ∙ append-nil _

  behind_none : p.last_record < q.number → holds_packet p q ≡ false
  behind_none behind =
      let beyond : nat_le q.number p.last_record ≡ false = grind (arith, nat_tests, behind) in
      ap (λ b. b && is_some (packet_at p (numbered q))) beyond

  -- ---- the record that a fault names

  get_front : (i : ℕ) → i < length records → slice_get all i ≡ slice_get records i
  get_front i h = let some = slice_get_some records i h in front q records i some.0 some.1 ∙ sym some.1

  subject_kept : (place : ℕ) → place ≤ length records → subject_of all place ≡ subject_of records place
  subject_kept zero h = refl
  subject_kept (suc before) h = ap (λ (o : Option Captured). Some (subject_at (suc before) (option_map (λ (r : Captured). r.time) o))) (get_front before (omega (arith, h)))

  subject_new : subject_of all (suc (length records)) ≡ Some (subject_at (suc (length records)) (Some q.time))
  subject_new = ap (λ (o : Option Captured). Some (subject_at (suc (length records)) (option_map (λ (r : Captured). r.time) o))) (get_next records (q ∷ []))

  -- ---- what crossed before that record

  before_kept : (f : Fault) → f.place ≤ suc (length records) → crossed_before p all f ≡ crossed_before p records f
  before_kept f h = ap (crossed_by p) (take-append-le (f.place - 1) records (q ∷ []) (omega (arith, h)))

  before_all : (f : Fault) → suc (length records) ≤ f.place → crossed_before p records f ≡ crossed_by p records
  before_all f h = ap (crossed_by p) (take_all (f.place - 1) records (omega (arith, h)))

  -- ---- how it stands

  pub judged_standing : (s : Standing) (k n : Crossing) (old new : List Stamp) (time : Option CaptureTime) → time ≡ Some q.time → q.number ≤ p.last_record
      → IsJudgedSo s p k n old new (numbered q) time → IsStanding Reading (crossed_by p records) records p k old → IsStanding s (crossed_by p all) all p n new
  judged_standing Reading k n old new time timed inside judged h = (
    crossed_inside inside ∙ ap (λ (s : Outcome). then_crossing s (λ (m : Crossing). after_record m (numbered q))) h.0 ∙ judged.0,
    judged.1 q.time timed ∙ ap (λ l. l ++ stamps_at p (numbered q) q.time) h.1 ∙ sym (stamps_inside inside),
  )
  judged_standing (Refused refusal) k n old new time timed inside judged h =
      let place : refusal.fault.place ≡ suc (length records) = record_place k (numbered q) refusal.fault judged.0 ∙ next in (
        crossed_inside inside ∙ ap (λ (s : Outcome). then_crossing s (λ (m : Crossing). after_record m (numbered q))) h.0 ∙ judged.0,
        judged.1 ∙ ap (λ t. Some (subject_at q.number t)) timed ∙ ap (λ m. Some (subject_at m (Some q.time))) next ∙ sym subject_new ∙ ap (subject_of all) (sym place),
        before_kept refusal.fault (omega (arith, place)) ∙ before_all refusal.fault (omega (arith, place)) ∙ h.0 ∙ ap ok (sym judged.2),
        judged.3 q.time timed ∙ ap (λ l. l ++ stamps_at p (numbered q) q.time) h.1 ∙ sym (stamps_inside inside),
      )
  judged_standing OutOfMemory k n old new time timed inside judged h = tt

  pub judged_within : (s : Standing) (k n : Crossing) (old new : List Stamp) (time : Option CaptureTime) → IsJudgedSo s p k n old new (numbered q) time → IsWithin s (length all)
  judged_within Reading k n old new time judged = tt
  judged_within (Refused refusal) k n old new time judged =
      let place = record_place k (numbered q) refusal.fault judged.0 in
      let size = length_push records q in
      omega (arith, place, next, size)
  judged_within OutOfMemory k n old new time judged = tt

  -- ---- a record that changes nothing

  refused_by : (f : Fault) → crossed_by p records ≡ Err f → (p.last_record < q.number) ⊎ (q.number ≤ p.last_record) → crossed_by p all ≡ Err f
  refused_by f e (inl behind) = crossed_behind behind ∙ e
  refused_by f e (inr inside) = crossed_inside inside ∙ ap (λ (s : Outcome). then_crossing s (λ (m : Crossing). after_record m (numbered q))) e

  -- of one that changes neither what crossed nor its packets
  pub same_standing : (s : Standing) (k : Crossing) (packets : List Stamp) → (crossed_by p records ≡ Ok k → crossed_by p all ≡ Ok k) → holds_packet p q ≡ false → IsWithin s (length records)
      → IsStanding s (crossed_by p records) records p k packets → IsStanding s (crossed_by p all) all p k packets
  same_standing Reading k packets same none within h = (same h.0, h.1 ∙ sym (stamps_none none))
  same_standing (Refused refusal) k packets same none within h = (
    refused_by refusal.fault h.0 (split p.last_record q.number),
    h.1 ∙ sym (subject_kept refusal.fault.place within),
    before_kept refusal.fault (omega (arith, within)) ∙ h.2,
    h.3 ∙ sym (stamps_none none),
  )
  same_standing OutOfMemory k packets same none within h = tt

  pub same_within : (s : Standing) → IsWithin s (length records) → IsWithin s (length all)
  same_within Reading within = tt
  same_within (Refused refusal) within = let size = length_push records q in omega (arith, within, size)
  same_within OutOfMemory within = tt

  -- of a connection that is judged no more, whose packet is noted
  pub stopped_standing : (s : Standing) (k : Crossing) (old new : List Stamp) (time : Option CaptureTime) → time ≡ Some q.time → q.number ≤ p.last_record → pushed_at p old new (numbered q) time
      → (s ≡ Reading → ⊥) → IsWithin s (length records) → IsStanding s (crossed_by p records) records p k old → IsStanding s (crossed_by p all) all p k new
  stopped_standing Reading k old new time timed inside pushed shut within h = absurd (shut refl)
  stopped_standing (Refused refusal) k old new time timed inside pushed shut within h = (
    refused_by refusal.fault h.0 (split p.last_record q.number),
    h.1 ∙ sym (subject_kept refusal.fault.place within),
    before_kept refusal.fault (omega (arith, within)) ∙ h.2,
    pushed q.time timed ∙ ap (λ l. l ++ stamps_at p (numbered q) q.time) h.3 ∙ sym (stamps_inside inside),
  )
  stopped_standing OutOfMemory k old new time timed inside pushed shut within h = tt

  -- ---- the first and the last record that hold a packet

  span_inside : (b : Bool) (old new : Span) (time : Option CaptureTime) → is_some (packet_at p (numbered q)) ≡ b → time ≡ Some q.time → q.number ≤ p.last_record
      → new ≡ cond b (span_with old (stamp_at q.number time)) old → old ≡ span_of (stamps_held p records) → new ≡ span_of (stamps_held p all)
  span_inside true old new time held timed inside is before =
      is ∙ ap (λ t. span_with old (stamp_at q.number t)) timed ∙ ap (λ s. span_with s (stamp_at q.number (Some q.time))) before
      ∙ sym (span_more (stamps_held p records) (stamp_of q))
      ∙ ap (λ b. span_of (stamps_held p records ++ cond b (stamp_of q ∷ []) [])) (sym held)
      ∙ ap span_of (sym (stamps_inside inside))
  span_inside false old new time held timed inside is before =
      is ∙ before ∙ ap span_of (sym (append-nil (stamps_held p records)))
      ∙ ap (λ b. span_of (stamps_held p records ++ cond b (stamp_of q ∷ []) [])) (sym held)
      ∙ ap span_of (sym (stamps_inside inside))

-- ---- a connection

abbrev StandsBy : List Captured → Line → Parameters → Type 0
StandsBy records l p = IsStanding l.standing (crossed_by p records) records p (crossed_in l.builder) l.packets.items

pub line_begun : (l : Line) (p : Parameters) → l.params ≡ p → l.standing ≡ Reading → crossed_in l.builder ≡ nothing_crossed p → l.packets.items ≡ [] → l.opens ≡ None
    → l.span ≡ span_of [] → l.taken ≡ 0 → IsLine [] l
line_begun l p params reading none packets unopened unseen taken = record {
  stands = record {
    standing = subst (λ (s : Standing). IsStanding s (crossed_by l.params []) [] l.params (crossed_in l.builder) l.packets.items) (sym reading)
        (crossed_none l.params ∙ ap (λ (x : Parameters). Ok (nothing_crossed x)) params ∙ ap (λ (k : Crossing). Ok k) (sym none), packets);
    within = subst (λ (s : Standing). IsWithin s 0) (sym reading) tt;
    shown = subst (λ (s : Standing). IsShowing s l.params (crossed_in l.builder) (packets_held l.params []) l.shown l.course) (sym reading) tt;
  };
  opens = unopened ∙ sym (ap (λ r. opens_first l.params (filter_map (λ (x : Captured). packet_at l.params (numbered x)) r)) (take_all l.params.last_record [] (omega arith)));
  span = unseen;
  taken = omega (arith, taken);
}

first_of : (a b : Numbered) → a ≡ b → a.0 ≡ b.0
first_of a b e = ap (λ (n : Numbered). n.0) e

-- ---- how it stands

-- what is the same of both
pub record SameLine (old new : Line) : Type 0 where
  pub params : new.params ≡ old.params
  pub builder : new.builder ≡ old.builder
  pub packets : new.packets.items ≡ old.packets.items
  pub standing : new.standing ≡ old.standing
  pub shown : new.shown ≡ old.shown
  pub course : new.course ≡ old.course

same_stands : (records : List Captured) (old new : Line) → SameLine old new → Stands records old → Stands records new
same_stands records old new same h =
    let p = old.params in record {
      standing = subst (StandsBy records new) (sym same.params)
          (subst (λ (s : Standing). IsStanding s (crossed_by p records) records p (crossed_in new.builder) new.packets.items) (sym same.standing)
          (subst (λ (l : List Stamp). IsStanding old.standing (crossed_by p records) records p (crossed_in new.builder) l) (sym same.packets)
          (subst (λ (b : StoreBuilder). IsStanding old.standing (crossed_by p records) records p (crossed_in b) old.packets.items) (sym same.builder) h.standing)));
      within = subst (λ (s : Standing). IsWithin s (length records)) (sym same.standing) h.within;
      shown = subst (λ (x : Parameters). IsShowing new.standing x (crossed_in new.builder) (packets_held x records) new.shown new.course) (sym same.params)
          (subst (λ (s : Standing). IsShowing s p (crossed_in new.builder) (packets_held p records) new.shown new.course) (sym same.standing)
          (subst (λ (s : Shown). IsShowing old.standing p (crossed_in new.builder) (packets_held p records) s new.course) (sym same.shown)
          (subst (λ (c : Option Course). IsShowing old.standing p (crossed_in new.builder) (packets_held p records) old.shown c) (sym same.course)
          (subst (λ (b : StoreBuilder). IsShowing old.standing p (crossed_in b) (packets_held p records) old.shown old.course) (sym same.builder) h.shown))));
    }

-- one of which memory is short
pub short_stands : (records : List Captured) (l : Line) → l.standing ≡ OutOfMemory → Stands records l
short_stands records l short = record {
  standing = subst (λ (s : Standing). IsStanding s (crossed_by l.params records) records l.params (crossed_in l.builder) l.packets.items) (sym short) tt;
  within = subst (λ (s : Standing). IsWithin s (length records)) (sym short) tt;
  shown = subst (λ (s : Standing). IsShowing s l.params (crossed_in l.builder) (packets_held l.params records) l.shown l.course) (sym short) tt;
}

-- a record that changes neither what crossed nor the packets
still_stands : (l : Line) (records : List Captured) (q : Captured) → q.number ≡ suc (length records)
    → (crossed_by l.params records ≡ Ok (crossed_in l.builder) → crossed_by l.params (records ++ q ∷ []) ≡ Ok (crossed_in l.builder)) → holds_packet l.params q ≡ false
    → Stands records l → Stands (records ++ q ∷ []) l
still_stands l records q next same none h = record {
  standing = same_standing l.params records q next l.standing (crossed_in l.builder) l.packets.items same none h.within h.standing;
  within = same_within l.params records q next l.standing h.within;
  shown = subst (λ (packets : List Packet). IsShowing l.standing l.params (crossed_in l.builder) packets l.shown l.course) (sym (held_none l.params records q next none)) h.shown;
}

-- what is shown of what crossed before a refusal
shown_judged : (s : Standing) (p : Parameters) (k n : Crossing) (old new : List Stamp) (r : Numbered) (time : Option CaptureTime) (packets : List Packet) (shown : Shown) (course : Option Course)
    → IsJudgedSo s p k n old new r time → IsShowing s p k packets shown course → IsShowing s p n packets shown course
shown_judged Reading p k n old new r time packets shown course judged h = tt
shown_judged (Refused refusal) p k n old new r time packets shown course judged h = (h.0, subst (λ (m : Crossing). IsFollowed p m packets course) (sym judged.2) h.1)
shown_judged OutOfMemory p k n old new r time packets shown course judged h = tt

pub passes_judged : (old new : Line) (r : Numbered) (time : Option CaptureTime) → old.standing ≡ Reading → r.0 ≤ old.params.last_record → IsJudged old new r time
    → IsShowing new.standing old.params (crossed_in old.builder) ((crossed_in old.builder).packets ++ option_to_list (packet_at old.params r)) new.shown new.course → new.params ≡ old.params
    → Passes old new r time
passes_judged old new r time reading inside judged shown params records q is next timed h =
    let p = old.params in
    let all : List Captured = records ++ q ∷ [] in
    let number = first_of _ _ is in
    let within : q.number ≤ p.last_record = omega (arith, number, inside) in
    let same = subst (λ (x : Numbered). IsJudgedSo new.standing p (crossed_in old.builder) (crossed_in new.builder) old.packets.items new.packets.items x time) (sym is) judged in
    let before = subst (λ (s : Standing). IsStanding s (crossed_by p records) records p (crossed_in old.builder) old.packets.items) reading h.standing in
    let held : (crossed_in old.builder).packets ++ option_to_list (packet_at p r) ≡ packets_held p all =
    ap (λ l. l ++ option_to_list (packet_at p r)) (crossed_held p records (crossed_in old.builder) before.0)
    ∙ ap (λ (x : Numbered). packets_held p records ++ option_to_list (packet_at p x)) (sym is)
    ∙ sym (held_inside p records q (number ∙ next) within) in record {
      standing = subst (StandsBy all new) (sym params)
          (judged_standing p records q (number ∙ next) new.standing (crossed_in old.builder) (crossed_in new.builder) old.packets.items new.packets.items time timed within same before);
      within = judged_within p records q (number ∙ next) new.standing (crossed_in old.builder) (crossed_in new.builder) old.packets.items new.packets.items time same;
      shown = subst (λ (x : Parameters). IsShowing new.standing x (crossed_in new.builder) (packets_held x all) new.shown new.course) (sym params)
          (subst (λ (packets : List Packet). IsShowing new.standing p (crossed_in new.builder) packets new.shown new.course) held
          (shown_judged new.standing p (crossed_in old.builder) (crossed_in new.builder) old.packets.items new.packets.items (numbered q) time _ new.shown new.course same shown));
    }

-- the packet of a record is taken in
pub record IsShownBy (old new : Line) (r : Numbered) : Type 0 where
  pub params : new.params ≡ old.params
  pub builder : new.builder ≡ old.builder
  pub shown : (k : Crossing) (packets : List Packet) → IsShowing old.standing old.params k packets old.shown old.course
      → IsShowing new.standing old.params k (packets ++ option_to_list (packet_at old.params r)) new.shown new.course

stopped_stands : (old new : Line) (r : Numbered) (time : Option CaptureTime) (records : List Captured) (q : Captured) → (old.standing ≡ Reading → ⊥) → r.0 ≤ old.params.last_record → IsShownBy old new r
    → numbered q ≡ r → r.0 ≡ suc (length records) → time ≡ Some q.time → Stands records old → new.standing ≡ old.standing → pushed_at old.params old.packets.items new.packets.items r time
    → Stands (records ++ q ∷ []) new
stopped_stands old new r time records q shut inside same is next timed h stays pushed =
    let p = old.params in
    let all : List Captured = records ++ q ∷ [] in
    let number = first_of _ _ is in
    let held : packets_held p records ++ option_to_list (packet_at p r) ≡ packets_held p all =
    ap (λ (x : Numbered). packets_held p records ++ option_to_list (packet_at p x)) (sym is) ∙ sym (held_inside p records q (number ∙ next) (omega (arith, number, inside))) in record {
      standing = subst (StandsBy all new) (sym same.params)
          (subst (λ (s : Standing). IsStanding s (crossed_by p all) all p (crossed_in new.builder) new.packets.items) (sym stays)
          (subst (λ (b : StoreBuilder). IsStanding old.standing (crossed_by p all) all p (crossed_in b) new.packets.items) (sym same.builder)
          (stopped_standing p records q (number ∙ next) old.standing (crossed_in old.builder) old.packets.items new.packets.items time timed (omega (arith, number, inside))
          (subst (λ (x : Numbered). pushed_at p old.packets.items new.packets.items x time) (sym is) pushed) shut h.within h.standing)));
      within = subst (λ (s : Standing). IsWithin s (length all)) (sym stays) (same_within p records q (number ∙ next) old.standing h.within);
      shown = subst (λ (x : Parameters). IsShowing new.standing x (crossed_in new.builder) (packets_held x all) new.shown new.course) (sym same.params)
          (subst (λ (b : StoreBuilder). IsShowing new.standing p (crossed_in b) (packets_held p all) new.shown new.course) (sym same.builder)
          (subst (λ (packets : List Packet). IsShowing new.standing p (crossed_in old.builder) packets new.shown new.course) held
          (same.shown (crossed_in old.builder) (packets_held p records) h.shown)));
    }

-- of a connection that is refused
pub passes_shown : (old new : Line) (r : Numbered) (time : Option CaptureTime) → (old.standing ≡ Reading → ⊥) → r.0 ≤ old.params.last_record
    → (new.standing ≡ OutOfMemory) ⊎ ((new.standing ≡ old.standing) × pushed_at old.params old.packets.items new.packets.items r time) → IsShownBy old new r → Passes old new r time
passes_shown old new r time shut inside (inl short) same records q is next timed h = short_stands (records ++ q ∷ []) new short
passes_shown old new r time shut inside (inr on) same records q is next timed h = stopped_stands old new r time records q shut inside same is next timed h on.0 on.1

-- ---- one record more

pub line_passed : (old begun mid new : Line) (r : Numbered) (time : Option CaptureTime) → r.0 ≤ old.params.last_record → SameLine old begun → Passes begun mid r time → SameLine mid new
    → new.params ≡ old.params → new.opens ≡ opens_with old.opens (opens_by old.params (packet_at old.params r))
    → new.span ≡ cond (is_some (packet_at old.params r)) (span_with old.span (stamp_at r.0 time)) old.span → new.taken ≡ r.0 → TakesIn old new r time
line_passed old begun mid new r time inside start passes end params opens span taken records q is next timed h =
    let p = old.params in
    let all : List Captured = records ++ q ∷ [] in
    let number = first_of _ _ is in
    let size = length_push records q in record {
      stands = same_stands all mid new end (passes records q is next timed (same_stands records old begun start h.stands));
      opens = opens ∙ ap (λ o. opens_with o (opens_by p (packet_at p r))) h.opens
          ∙ ap (λ (x : Numbered). opens_with (opens_first p (packets_held p records)) (opens_by p (packet_at p x))) (sym is)
          ∙ sym (opens_more p (packets_held p records) (packet_at p (numbered q)))
          ∙ ap (opens_first p) (sym (held_inside p records q (number ∙ next) (omega (arith, number, inside))))
          ∙ ap (λ (x : Parameters). opens_first x (packets_held x all)) (sym params);
      span =
          span_inside p records q (number ∙ next) (is_some (packet_at p (numbered q))) old.span new.span time refl timed (omega (arith, number, inside))
          (span ∙ ap (λ (x : Numbered). cond (is_some (packet_at p x)) (span_with old.span (stamp_at x.0 time)) old.span) (sym is)) h.span
          ∙ ap (λ (x : Parameters). span_of (stamps_held x all)) (sym params);
      taken = omega (arith, taken, next, size);
    }

pub line_behind : (old new : Line) (r : Numbered) (time : Option CaptureTime) → old.params.last_record < r.0 → SameLine old new → new.opens ≡ old.opens → new.span ≡ old.span → new.taken ≡ r.0
    → TakesIn old new r time
line_behind old new r time behind same opens span taken records q is next timed h =
    let p = old.params in
    let all : List Captured = records ++ q ∷ [] in
    let number = first_of _ _ is in
    let beyond : p.last_record < q.number = omega (arith, number, behind) in
    let none = behind_none p records q (number ∙ next) beyond in
    let size = length_push records q in record {
      stands = same_stands all old new same (still_stands old records q (number ∙ next) (λ e. crossed_behind p records q (number ∙ next) beyond ∙ e) none h.stands);
      opens = opens ∙ h.opens ∙ ap (opens_first p) (sym (held_none p records q (number ∙ next) none)) ∙ ap (λ (x : Parameters). opens_first x (packets_held x all)) (sym same.params);
      span = span ∙ h.span ∙ ap span_of (sym (stamps_none p records q (number ∙ next) none)) ∙ ap (λ (x : Parameters). span_of (stamps_held x all)) (sym same.params);
      taken = omega (arith, taken, next, size);
    }

-- a record that changes neither what crossed nor the packets
pub line_same : (l : Line) (records : List Captured) (q : Captured) → q.number ≡ suc (length records)
    → (crossed_by l.params records ≡ Ok (crossed_in l.builder) → crossed_by l.params (records ++ q ∷ []) ≡ Ok (crossed_in l.builder)) → holds_packet l.params q ≡ false
    → IsLine records l → IsLine (records ++ q ∷ []) l
line_same l records q next same none h =
    let size = length_push records q in
    let few = h.taken in record {
      stands = still_stands l records q next same none h.stands;
      opens = h.opens ∙ ap (opens_first l.params) (sym (held_none l.params records q next none));
      span = h.span ∙ ap span_of (sym (stamps_none l.params records q next none));
      taken = omega (arith, few, size);
    }
