-- A connection where the reading of a file ends.
use Rattle.std.proofs.Common.{◌≡◌, ◌∙◌, ◌⊎◌, inl, inr, suc, ◌-◌, ◌<◌, ◌≤◌, List, [], ◌∷◌, length, cond, Bool, true, false, nat_eq, nat_lt, Option, None, Some, Result, ap, refl, sym, subst, arith}
use Rattle.std.proofs.lemmas.Bool.Decides.{nat_tests}
use Rattle.std.proofs.lemmas.List.{take_all}
use Rattle.std.specs.Option.{option_map}
use Rattle.std.specs.Prelude.{slice_get}
use Rattle.rasta_pcap.specs.declared.fault.Fault.{Fault}
use Rattle.rasta_pcap.specs.Captured.{Captured}
use Rattle.rasta_udp.specs.Frame.{Packet}
use Rattle.rasta_pdu.specs.Params.{Parameters}
use Rattle.rasta_check.specs.Capture.Building.{crossed_in}
use Rattle.rasta_check.specs.Capture.Crossing.{Crossing}
use Rattle.rasta_check.specs.Capture.Reading.{then_crossing, at_end}
use Rattle.rasta_check.specs.declared.store_builder.StoreBuilder.{StoreBuilder}
use Rattle.seatmelon_middle.specs.Packets.{opens_first}
use Rattle.seatmelon_audit.specs.Ends.{EndsBy, IsFaultAfter, crossed_to_end, fault_behind}
use Rattle.seatmelon_audit.specs.Records.{IsStanding, crossed_before, crossed_by, span_of, stamps_held, subject_at, subject_behind, subject_of}
use Rattle.seatmelon_audit.specs.Shown.{IsShowing, packets_held}
use Rattle.seatmelon_audit.specs.declared.line.Line.{Line}
use Rattle.seatmelon_audit.specs.declared.line.Refusal.{Refusal}
use Rattle.seatmelon_audit.specs.declared.line.Stamp.{Stamp}
use Rattle.seatmelon_audit.specs.declared.line.Standing.{Standing}
use Rattle.seatmelon_audit.specs.declared.line.Standing.TheVariants.{OutOfMemory, Reading, Refused}
use Rattle.seatmelon_audit.specs.declared.line.Subject.{Subject}
use Rattle.seatmelon_audit.proofs.Showing.{crossed_held}

abbrev Outcome : Type 0
Outcome = Result Crossing Fault

get_past : (xs : List Captured) → slice_get xs (length xs) ≡ None
get_past [] = refl
get_past (x ∷ xs) = get_past xs

module _ (p : Parameters) (records : List Captured) (fault : Fault) (after : IsFaultAfter records fault) (some : 0 < p.last_record) where
  inside_by : IsFaultAfter records fault → fault.place ≤ p.last_record → nat_lt (length records) p.last_record ≡ true
  inside_by (inl (at, none)) inside = let size : length records ≡ 0 = ap length none in grind (arith, nat_tests, size, some)
  inside_by (inr at) inside = grind (arith, nat_tests, at, inside)

  behind_by : IsFaultAfter records fault → p.last_record < fault.place → nat_lt (length records) p.last_record ≡ false
  behind_by (inl (at, none)) behind = absurd (omega (arith, at, behind))
  behind_by (inr at) behind = grind (arith, nat_tests, at, behind)

  subject_by : IsFaultAfter records fault → subject_behind fault.place ≡ subject_of records fault.place
  subject_by (inl (at, none)) = ap subject_behind at ∙ sym (ap (subject_of records) at)
  subject_by (inr at) =
      let other : nat_eq (suc (length records)) 0 ≡ false = grind (arith, nat_tests) in
      ap subject_behind at ∙ ap (λ (b : Bool). cond b None (Some (subject_at (suc (length records)) None))) other
      ∙ sym (ap (subject_of records) at ∙ ap (λ (o : Option Captured). Some (subject_at (suc (length records)) (option_map (λ (r : Captured). r.time) o))) (get_past records))

  all_before : IsFaultAfter records fault → crossed_before p records fault ≡ crossed_by p records
  all_before (inl (at, none)) = let size : length records ≡ 0 = ap length none in ap (crossed_by p) (take_all (fault.place - 1) records (omega (arith, size)))
  all_before (inr at) = ap (crossed_by p) (take_all (fault.place - 1) records (omega (arith, at)))

  -- nothing changes
  stays : (s : Standing) (k : Crossing) (packets : List Stamp) → (s ≡ Reading → p.last_record < fault.place)
      → IsStanding s (crossed_by p records) records p k packets → IsStanding s (crossed_to_end p records (Some fault)) records p k packets
  stays Reading k packets behind h = (
    ap (λ (s : Outcome). then_crossing s (λ (m : Crossing). at_end m (fault_behind p records (Some fault)))) h.0
        ∙ ap (λ (b : Bool). at_end k (cond b (Some fault) None)) (behind_by after (behind refl)),
    h.1,
  )
  stays (Refused refusal) k packets behind h = (ap (λ (s : Outcome). then_crossing s (λ (m : Crossing). at_end m (fault_behind p records (Some fault)))) h.0, h.1, h.2, h.3)
  stays OutOfMemory k packets behind h = tt

  refuses : (subject : Option Subject) (k : Crossing) (packets : List Stamp) → fault.place ≤ p.last_record → subject ≡ subject_behind fault.place
      → IsStanding Reading (crossed_by p records) records p k packets
      → IsStanding (Refused (record { fault = fault; subject = subject })) (crossed_to_end p records (Some fault)) records p k packets
  refuses subject k packets inside names h = (
    ap (λ (s : Outcome). then_crossing s (λ (m : Crossing). at_end m (fault_behind p records (Some fault)))) h.0
        ∙ ap (λ (b : Bool). at_end k (cond b (Some fault) None)) (inside_by after inside),
    names ∙ subject_by after,
    all_before after ∙ h.0,
    h.1,
  )

-- the window of a connection has a record
ends_late : (l : Line) → 0 < l.params.last_record
ends_late l = (let from = l.window.from_one in let order = l.window.in_order in omega (arith, from, order))

pub line_stays : (l : Line) (fault : Fault) → (l.standing ≡ Reading → l.params.last_record < fault.place) → EndsBy l l fault
line_stays l fault behind records after h = record {
  standing = stays l.params records fault after (ends_late l) l.standing (crossed_in l.builder) l.packets.items behind h.stands.standing;
  opens = h.opens;
  span = h.span;
  shown = h.stands.shown;
}

-- refused, or short of memory
either : (Holds : Standing → Type 0) (s : Standing) (refusal : Refusal) → (s ≡ Refused refusal) ⊎ (s ≡ OutOfMemory) → Holds (Refused refusal) → Holds OutOfMemory → Holds s
either Holds s refusal (inl is) refused short = subst Holds (sym is) refused
either Holds s refusal (inr is) refused short = subst Holds (sym is) short

pub line_refused : (old new : Line) (fault : Fault) (subject : Option Subject) → old.standing ≡ Reading → fault.place ≤ old.params.last_record → subject ≡ subject_behind fault.place
    → new.params ≡ old.params → new.builder ≡ old.builder → new.packets.items ≡ old.packets.items → new.opens ≡ old.opens → new.span ≡ old.span
    → (new.standing ≡ Refused (record { fault = fault; subject = subject })) ⊎ (new.standing ≡ OutOfMemory)
    → IsShowing new.standing old.params (crossed_in old.builder) (crossed_in old.builder).packets new.shown new.course → EndsBy old new fault
line_refused old new fault subject reading inside names params builder packets opens span refused shown records after h =
    let p = old.params in
    let before = subst (λ (s : Standing). IsStanding s (crossed_by p records) records p (crossed_in old.builder) old.packets.items) reading h.stands.standing in record {
      standing = subst (λ (x : Parameters). IsStanding new.standing (crossed_to_end x records (Some fault)) records x (crossed_in new.builder) new.packets.items) (sym params)
          (either (λ (s : Standing). IsStanding s (crossed_to_end p records (Some fault)) records p (crossed_in new.builder) new.packets.items) new.standing
          (record { fault = fault; subject = subject }) refused
          (subst (λ (l : List Stamp). IsStanding (Refused (record { fault = fault; subject = subject })) (crossed_to_end p records (Some fault)) records p (crossed_in new.builder) l) (sym packets)
          (subst (λ (b : StoreBuilder). IsStanding (Refused (record { fault = fault; subject = subject })) (crossed_to_end p records (Some fault)) records p (crossed_in b) old.packets.items) (sym builder)
          (refuses p records fault after (ends_late old) subject (crossed_in old.builder) old.packets.items inside names before)))
          tt);
      opens = opens ∙ h.opens ∙ ap (λ (x : Parameters). opens_first x (packets_held x records)) (sym params);
      span = span ∙ h.span ∙ ap (λ (x : Parameters). span_of (stamps_held x records)) (sym params);
      shown = subst (λ (x : Parameters). IsShowing new.standing x (crossed_in new.builder) (packets_held x records) new.shown new.course) (sym params)
          (subst (λ (b : StoreBuilder). IsShowing new.standing p (crossed_in b) (packets_held p records) new.shown new.course) (sym builder)
          (subst (λ (held : List Packet). IsShowing new.standing p (crossed_in old.builder) held new.shown new.course) (crossed_held p records (crossed_in old.builder) before.0) shown));
    }
