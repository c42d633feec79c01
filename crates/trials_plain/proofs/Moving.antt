-- Moves of the plain program: which are allowed, and where they lead.
use Rattle.std.proofs.Common.{◌≡◌, ℕ, suc, ◌+◌, ◌<◌, ◌≤◌, Bool, true, false, Option, Some, None, List, [], ◌∷◌, ◌++◌, length, map, slice_get, MatchOption, Result, Ok, Err, IfOk, OnErr, IsTrue, refl, sym, ap, subst, ◌∙◌, arith, ⊎_elim}
use Rattle.std.specs.List.{Contains}
use Rattle.std.specs.Option.{is_some}
use Rattle.std.specs.Borrow.{Bor}
use Rattle.std.proofs.lemmas.List.{map-append}
use Rattle.std.proofs.lemmas.List.Elements.{Contains-push_cases, Contains-append_cases}
use Rattle.std.proofs.lemmas.Option.{slice_get_within}
use Rattle.rasta_pcap.specs.declared.fault.Fault.{Fault}
use Rattle.rasta_pcap.specs.declared.fault.Side.{Side}
use Rattle.rasta_pcap.specs.Fault.{fault_of_end, no_memory}
use Rattle.rasta_udp.specs.declared.channel.Datagram.{Datagram}
use Rattle.rasta_udp.specs.Frame.{Packet, packet_of}
use Rattle.rasta_pdu.specs.declared.pdu.Pdu.{Pdu}
use Rattle.rasta_pdu.specs.Params.{Parameters}
use Rattle.rasta_pdu.specs.Pdu.{SafetyPdu, RedundancyPdu, value_of}
use Rattle.rasta_end.specs.declared.why.Why.{Why}
use Rattle.rasta_end.specs.declared.make_row.MakeRow.{MakeRow}
use Rattle.rasta_end.specs.State.{Made, EndState, wrapped}
use Rattle.rasta_end.specs.MakeRule.{row_of, make_fault, after_make_by, after_make, IsMakeRefusal}
use Rattle.rasta_end.specs.TakeRule.{take_fault, after_take}
use Rattle.trials_plain.specs.declared.world.Move.{Move}
use Rattle.trials_plain.specs.declared.world.Move.TheVariants.{Make, Repeat, Arrive, Take, Wait}
use Rattle.trials_plain.specs.declared.world.PlainStation.TheInside.{Inside}
use Rattle.rasta_end.specs.Judged.{JudgedEnd}
use Rattle.rasta_end.proofs.MakeTests.{no_fault, no_test}
use Rattle.rasta_check.specs.Capture.SentLists.{Spells}
use Rattle.rasta_check.specs.Capture.SentLists.{IsRecorded}
use Rattle.rasta_check.specs.Model.World.{Station, World, Move as Label, making, repeating, arriving, taking, waiting, Moves, makes, repeats, arrives, takes, waits, Step, station_of, other_side, moved, side_moves}
use Rattle.trials_plain.specs.Moving.{IsMove, Answers, JudgedStation, judged_station, IsPlainStation}
use Rattle.rasta_check.proofs.Model.TakeRows.{accepted_after, take_leaves}
use Rattle.rasta_check.proofs.Model.Steps.{made_more}
use Rattle.rasta_check.proofs.Verdict.CallAnswers.{if_ok}

-- ---- waits

wait_needs : (p : Parameters) (b : Station) (xs : List Packet) (a a' : Station) (ys : List Packet) {label : Label} (m : Moves p b xs a label a' ys) (clock : ℕ) → IsMove p b xs a a' ys m (Wait clock) → a.clock ≤ clock
wait_needs p b xs a a' ys (makes x why e channel reserve check bytes mk sp rec) clock is = absurd is
wait_needs p b xs a a' ys (repeats place channel old there side rec) clock is = absurd is
wait_needs p b xs a a' ys (arrives position low within) clock is = absurd is
wait_needs p b xs a a' ys (takes position m e there above get tk) clock is = absurd is
wait_needs p b xs a a' ys (waits until rises) clock is = omega (arith, rises, is)

pub wait_refused : (p : Parameters) (b a : Station) (clock : ℕ) → clock < a.clock → (xs : List Packet) → Answers p b xs a (Wait clock) false a xs
wait_refused p b a clock falls xs = (refl, refl, λ c ys label m is. let l = wait_needs p b xs a c ys m clock is in omega (arith, l, falls))

pub wait_made : (p : Parameters) (b a : Station) (clock : ℕ) → a.clock ≤ clock → (xs : List Packet) → Answers p b xs a (Wait clock) true (record a { clock = clock }) xs
wait_made p b a clock rises xs = (waiting clock, waits clock rises, refl)

-- ---- arrivals

arrive_needs : (p : Parameters) (b : Station) (xs : List Packet) (a a' : Station) (ys : List Packet) {label : Label} (m : Moves p b xs a label a' ys) (position : ℕ) → IsMove p b xs a a' ys m (Arrive position)
    → (b.state.base ≤ position) × (position < length b.state.made)
arrive_needs p b xs a a' ys (makes x why e channel reserve check bytes mk sp rec) position is = absurd is
arrive_needs p b xs a a' ys (repeats place channel old there side rec) position is = absurd is
arrive_needs p b xs a a' ys (arrives at low within) position is = (omega (arith, low, is), omega (arith, within, is))
arrive_needs p b xs a a' ys (takes at m e there above get tk) position is = absurd is
arrive_needs p b xs a a' ys (waits until rises) position is = absurd is

pub arrive_refused : (p : Parameters) (b a : Station) (position : ℕ) → (b.state.base ≤ position → position < length b.state.made → ⊥) → (xs : List Packet) → Answers p b xs a (Arrive position) false a xs
arrive_refused p b a position none xs = (refl, refl, λ c ys label m is. let n = arrive_needs p b xs a c ys m position is in none n.0 n.1)

pub arrive_made : (p : Parameters) (b a : Station) (position : ℕ) → b.state.base ≤ position → (m : Made) → slice_get b.state.made position ≡ Some m
    → (xs : List Packet) → Answers p b xs a (Arrive position) true (record a { arrived = position ∷ a.arrived }) xs
arrive_made p b a position low m get xs = (arriving position, arrives position low (slice_get_within b.state.made position m get), refl)

-- ---- takes

-- the PDU of the peer at a position that arrived
pub takeable_there : (p : Parameters) (peer a : Station) (position : ℕ) (r : Option Pdu)
    → peer.state.base ≡ a.state.base → Contains a.arrived position → a.mark ≤ position → a.state.base ≤ position → take_fault p a.state a.clock ≡ None
    → MatchOption r (peer.state.base ≤ position → position < length peer.state.made → ⊥)
    (λ d. (peer.state.base ≤ position) × ((m : Made) × (slice_get peer.state.made position ≡ Some m) × (m.pdu ≡ (value_of d).safety)))
    → MatchOption r
    ((m : Made) → Contains a.arrived position → a.mark ≤ position → slice_get peer.state.made position ≡ Some m → take_fault p a.state a.clock ≡ None → ⊥)
    (λ d. Contains a.arrived position × (a.mark ≤ position)
    × ((m : Made) × (slice_get peer.state.made position ≡ Some m) × (m.pdu ≡ (value_of d).safety))
    × (take_fault p a.state a.clock ≡ None))
takeable_there p peer a position None same there above low calm none = λ m i l get t. none (let P : ℕ → Type 0 = λ n. n ≤ position in subst P (sym same) low) (slice_get_within peer.state.made position m get)
takeable_there p peer a position (Some d) same there above low calm found = (there, above, found.1, calm)

take_needs : (p : Parameters) (b : Station) (xs : List Packet) (a a' : Station) (ys : List Packet) {label : Label} (m : Moves p b xs a label a' ys) (position : ℕ) → IsMove p b xs a a' ys m (Take position)
    → (n : Made) × Contains a.arrived position × (a.mark ≤ position) × (slice_get b.state.made position ≡ Some n) × (take_fault p a.state a.clock ≡ None)
take_needs p b xs a a' ys (makes x why e channel reserve check bytes mk sp rec) position is = absurd is
take_needs p b xs a a' ys (repeats place channel old there side rec) position is = absurd is
take_needs p b xs a a' ys (arrives at low within) position is = absurd is
take_needs p b xs a a' ys (takes at n e there above get tk) position is =
    subst (λ (q : ℕ). (n : Made) × Contains a.arrived q × (a.mark ≤ q) × (slice_get b.state.made q ≡ Some n) × (take_fault p a.state a.clock ≡ None)) (sym is) (n, there, above, get, tk.0)
take_needs p b xs a a' ys (waits until rises) position is = absurd is

pub take_refused : (p : Parameters) (b a : Station) (position : ℕ)
    → ((m : Made) → Contains a.arrived position → a.mark ≤ position → slice_get b.state.made position ≡ Some m → take_fault p a.state a.clock ≡ None → ⊥)
    → (xs : List Packet) → Answers p b xs a (Take position) false a xs
take_refused p b a position none xs = (refl, refl, λ c ys label m is. let n = take_needs p b xs a c ys m position is in none n.0 n.1 n.2 n.3 n.4)

pub take_made : (p : Parameters) (b a : Station) (position : ℕ) (m : Made) → Contains a.arrived position → a.mark ≤ position → slice_get b.state.made position ≡ Some m
    → take_fault p a.state a.clock ≡ None
    → (xs : List Packet) → Answers p b xs a (Take position) true (record a { state = after_take p a.state m.pdu; mark = suc position }) xs
take_made p b a position m there above get calm xs = (taking position, takes position m (after_take p a.state m.pdu) there above get (calm, refl), refl)

-- ---- repeats

repeat_needs : (p : Parameters) (b : Station) (xs : List Packet) (a a' : Station) (ys : List Packet) {label : Label} (m : Moves p b xs a label a' ys) (place channel : ℕ) → IsMove p b xs a a' ys m (Repeat place channel)
    → (old : Packet) × (slice_get xs place ≡ Some old) × (old.side ≡ a.state.side) × IsRecorded p channel
repeat_needs p b xs a a' ys (makes x why e on reserve check bytes mk sp rec) place channel is = absurd is
repeat_needs p b xs a a' ys (repeats at on old there side rec) place channel is =
    (old, subst (λ (n : ℕ). slice_get xs n ≡ Some old) (sym is.0) there, side, subst (λ (n : ℕ). IsRecorded p n) (sym is.1) rec)
repeat_needs p b xs a a' ys (arrives at low within) place channel is = absurd is
repeat_needs p b xs a a' ys (takes at m e there above get tk) place channel is = absurd is
repeat_needs p b xs a a' ys (waits until rises) place channel is = absurd is

pub repeat_refused : (p : Parameters) (b a : Station) (xs : List Packet) (place channel : ℕ)
    → ((old : Packet) → slice_get xs place ≡ Some old → old.side ≡ a.state.side → IsRecorded p channel → ⊥) → Answers p b xs a (Repeat place channel) false a xs
repeat_refused p b a xs place channel none = (refl, refl, λ c ys label m is. let n = repeat_needs p b xs a c ys m place channel is in none n.0 n.1 n.2 n.3)

pub repeat_made : (p : Parameters) (b a : Station) (xs : List Packet) (place channel : ℕ) (old : Packet) → slice_get xs place ≡ Some old → old.side ≡ a.state.side → IsRecorded p channel
    → Answers p b xs a (Repeat place channel) true a (xs ++ record old { channel = channel } ∷ [])
repeat_made p b a xs place channel old get side rec = (repeating place channel, repeats place channel old get side rec, (refl, refl))

-- ---- makes

abbrev next : Station → ℕ
next a = wrapped (a.first_number + length a.state.made)

make_needs : (p : Parameters) (b : Station) (xs : List Packet) (a a' : Station) (ys : List Packet) {label : Label} (m : Moves p b xs a label a' ys) (channel : ℕ) (payload : Bor (List ℕ)) (why : Why)
    → IsMove p b xs a a' ys m (Make channel payload why)
    → (r : RedundancyPdu) × Spells p a.state.side r payload.now × (r.number ≡ next a) × IsRecorded p channel × (make_fault p a.state r.safety a.clock why ≡ None)
make_needs p b xs a a' ys (makes x because e on reserve check bytes mk sp rec) channel payload why is =
    let r : RedundancyPdu = record { reserve = reserve; number = next a; safety = x; check_bytes = check } in (
      r,
      subst (λ (zs : List ℕ). Spells p a.state.side r zs) (sym is.1) sp,
      refl,
      subst (λ (n : ℕ). IsRecorded p n) (sym is.0) rec,
      subst (λ (w : Why). make_fault p a.state x a.clock w ≡ None) (sym is.2) (no_fault p a.state x a.clock because mk.0),
    )
make_needs p b xs a a' ys (repeats at on old there side rec) channel payload why is = absurd is
make_needs p b xs a a' ys (arrives at low within) channel payload why is = absurd is
make_needs p b xs a a' ys (takes at m e there above get tk) channel payload why is = absurd is
make_needs p b xs a a' ys (waits until rises) channel payload why is = absurd is

pub make_refused : (p : Parameters) (b a : Station) (xs : List Packet) (channel : ℕ) (payload : Bor (List ℕ)) (why : Why)
    → ((r : RedundancyPdu) → Spells p a.state.side r payload.now → r.number ≡ next a → IsRecorded p channel → make_fault p a.state r.safety a.clock why ≡ None → ⊥)
    → Answers p b xs a (Make channel payload why) false a xs
make_refused p b a xs channel payload why none = (refl, refl, λ c ys label m is. let n = make_needs p b xs a c ys m channel payload why is in none n.0 n.1 n.2 n.3 n.4)

pub make_made : (p : Parameters) (b a : Station) (xs : List Packet) (channel : ℕ) (payload : Bor (List ℕ)) (why : Why) (r : RedundancyPdu)
    → Spells p a.state.side r payload.now → r.number ≡ next a → IsRecorded p channel → make_fault p a.state r.safety a.clock why ≡ None
    → Answers p b xs a (Make channel payload why) true (record a { state = after_make a.state r.safety a.clock why }) (xs ++ record { channel = channel; side = a.state.side; payload = payload.now } ∷ [])
make_made p b a xs channel payload why r sp number rec calm = (
  making r.safety why channel r.reserve r.check_bytes,
  makes r.safety why (after_make a.state r.safety a.clock why) channel r.reserve r.check_bytes payload.now (no_test p a.state r.safety a.clock why calm, refl)
      (subst (λ (n : ℕ). Spells p a.state.side (record { reserve = r.reserve; number = n; safety = r.safety; check_bytes = r.check_bytes }) payload.now) number sp) rec,
  (refl, refl, refl),
)

-- ---- what a station keeps

pub arrived_after : (s : Inside) (v : JudgedStation) → judged_station s ≡ v → IsPlainStation s → (position : ℕ) → Contains v.station.arrived position → v.station.state.base ≤ position
arrived_after s v view kept position =
    subst (λ (w : JudgedStation). Contains w.station.arrived position → w.station.state.base ≤ position) view (λ there. let l = kept.arrived position there in omega (arith, l, kept.base))

pub kept_arrived : (s : Inside) (items : List ℕ) (position : ℕ) → IsPlainStation s → items ≡ position ∷ s.arrived.items → s.base ≤ position
    → (at : ℕ) → Contains items at → s.base ≤ at
kept_arrived s items position kept is low at there = ⊎_elim
    (λ (one : Contains (position ∷ []) at). ⊎_elim (λ (none : Contains [] at). absurd (omega (arith, none.1))) (λ (e : position ≡ at). omega (arith, e, low)) (Contains-push_cases [] position at one))
    (λ (old : Contains s.arrived.items at). kept.arrived at old)
    (Contains-append_cases (position ∷ []) s.arrived.items at (subst (λ (xs : List ℕ). Contains xs at) is there))

-- the position of a PDU that the peer made is not below the own first one
pub after_base : (s : Inside) (v : JudgedStation) (base position : ℕ) → judged_station s ≡ v → IsPlainStation s → base ≡ v.station.state.base → base ≤ position → s.base ≤ position
after_base s v base position view kept same low = (let e = ap (λ (w : JudgedStation). w.station.state.base) view in omega (arith, e, kept.base, same, low))

-- ---- faults

not_both : {A : Type 0} (o : Option A) (x : A) → o ≡ Some x → o ≡ None → ⊥
not_both o x some none = absurd (let e : Some x ≡ None = sym some ∙ none in cc)

memory_has_no_end : (fault : Fault) → is_some fault.end ≡ true → fault ≡ no_memory → ⊥
memory_has_no_end fault some is = absurd (let e : false ≡ true = sym (ap (λ (f : Fault). is_some f.end) is) ∙ some in cc)

-- ---- after a take

module _ (s : Inside) (e : JudgedEnd) (x : SafetyPdu) (position n : ℕ) (kept : IsPlainStation s)
    (is : e ≡ record { params = s.end.params; state = after_take s.end.params s.end.state x }) (next_is : n ≡ suc position) where
  pub kept_take : s.mark ≤ position → IsPlainStation (record s { end = e; mark = n })
  kept_take above =
      let alone = take_leaves s.end.params s.end.state x in
      let most = accepted_after s.end.params s.end.state x in
      let few = ap (λ (f : JudgedEnd). f.state.accepted) is in
      record {
        params = ap (λ (f : JudgedEnd). f.params) is ∙ kept.params;
        side = kept.side ∙ sym (ap (λ (f : JudgedEnd). f.state.side) is ∙ alone.side);
        base = kept.base ∙ sym (ap (λ (f : JudgedEnd). f.state.base) is ∙ alone.base);
        small = kept.small;
        clock = (let now = ap (λ (f : JudgedEnd). f.state.clock) is ∙ alone.clock in omega (arith, now, kept.clock));
        arrived = kept.arrived;
        accepted = omega (arith, few, most, kept.accepted, above, next_is);
      }

  pub took : (v : JudgedStation) (b : Station) → judged_station s ≡ v
      → Contains v.station.arrived position × (v.station.mark ≤ position)
      × ((m : Made) × (slice_get b.state.made position ≡ Some m) × (m.pdu ≡ x))
      × (take_fault v.params v.station.state v.station.clock ≡ None)
      → (xs : List Packet)
      → Answers v.params b xs v.station (Take position) true (record { state = e.state; clock = s.clock; arrived = s.arrived.items; mark = n; first_number = s.first_number }) xs
  took v b view may xs =
      let P : JudgedStation → Type 0 = λ (w : JudgedStation).
      Contains w.station.arrived position × (w.station.mark ≤ position)
      × ((m : Made) × (slice_get b.state.made position ≡ Some m) × (m.pdu ≡ x)) × (take_fault w.params w.station.state w.station.clock ≡ None) in
      let here = subst P (sym view) may in
      let m = here.2.0 in
      let state : e.state ≡ after_take s.params s.end.state m.pdu =
      ap (λ (f : JudgedEnd). f.state) is ∙ (ap (λ (p : Parameters). after_take p s.end.state x) kept.params ∙ ap (after_take s.params s.end.state) (sym here.2.2)) in
      subst (λ (w : JudgedStation). Answers w.params b xs w.station (Take position) true (record { state = e.state; clock = s.clock; arrived = s.arrived.items; mark = n; first_number = s.first_number }) xs) view
      (subst (λ (c : Station). Answers s.params b xs (judged_station s).station (Take position) true c xs)
      (λ i. record { state = sym state i; clock = s.clock; arrived = s.arrived.items; mark = sym next_is i; first_number = s.first_number })
      (take_made s.params b (judged_station s).station position m here.0 here.1 here.2.1 here.3 xs))

-- ---- packets

pub mapped : (items all : List Datagram) (x : Datagram) → all ≡ items ++ x ∷ [] → map packet_of all ≡ map packet_of items ++ packet_of x ∷ []
mapped items all x e = ap (map packet_of) e ∙ map-append packet_of items (x ∷ [])

pub repeated : (p : Parameters) (b a : Station) (items all : List Datagram) (place channel : ℕ) (d : Datagram)
    → slice_get (map packet_of items) place ≡ Some (packet_of d) → d.side ≡ a.state.side → IsRecorded p channel → all ≡ items ++ record { channel = channel; side = d.side; payload = d.payload } ∷ []
    → Answers p b (map packet_of items) a (Repeat place channel) true a (map packet_of all)
repeated p b a items all place channel d get side rec pushed =
    let again : Datagram = record { channel = channel; side = d.side; payload = d.payload } in
    subst (λ (ys : List Packet). Answers p b (map packet_of items) a (Repeat place channel) true a ys) (sym (mapped items all again pushed))
    (repeat_made p b a (map packet_of items) place channel (packet_of d) get side rec)

-- ---- after a make

same_after : (row : Option MakeRow) (e : EndState) (x : SafetyPdu) (clock : ℕ)
    → ((after_make_by row e x clock).side ≡ e.side) × ((after_make_by row e x clock).base ≡ e.base) × ((after_make_by row e x clock).accepted ≡ e.accepted)
same_after row e x clock = grind arith

clock_after : (row : Option MakeRow) (e : EndState) (x : SafetyPdu) (clock : ℕ) → e.clock ≤ clock → (after_make_by row e x clock).clock ≤ clock
clock_after row e x clock h = grind arith

pub kept_make : (s : Inside) (e : JudgedEnd) (why : Why) (d : RedundancyPdu) → IsPlainStation s → e ≡ record { params = s.end.params; state = after_make s.end.state d.safety s.clock why } → IsPlainStation (record s { end = e })
kept_make s e why d kept is =
    let same = same_after (row_of s.end.state d.safety why) s.end.state d.safety s.clock in
    let few = ap (λ (f : JudgedEnd). f.state.accepted) is ∙ same.2 in
    record {
      params = ap (λ (f : JudgedEnd). f.params) is ∙ kept.params;
      side = kept.side ∙ sym (ap (λ (f : JudgedEnd). f.state.side) is ∙ same.0);
      base = kept.base ∙ sym (ap (λ (f : JudgedEnd). f.state.base) is ∙ same.1);
      small = kept.small;
      clock = (let now = ap (λ (f : JudgedEnd). f.state.clock) is in let past = clock_after (row_of s.end.state d.safety why) s.end.state d.safety s.clock kept.clock in omega (arith, now, past));
      arrived = kept.arrived;
      accepted = omega (arith, few, kept.accepted);
    }

module _ (s : Inside) (v : JudgedStation) (b : Station) (e : JudgedEnd) (channel : ℕ) (payload : Bor (List ℕ)) (why : Why) (d : RedundancyPdu) (view : judged_station s ≡ v) (kept : IsPlainStation s) where
  -- the end refuses to make it
  pub not_made : (items all : List Datagram) (fault : Fault) → all ≡ items → e ≡ s.end → IsMakeRefusal s.end.params s.end.state d.safety s.clock why fault → is_some fault.end ≡ true
      → ((r : RedundancyPdu) → Spells v.params v.station.state.side r payload.now → d ≡ r)
      → Answers v.params b (map packet_of items) v.station (Make channel payload why) false
      (record { state = e.state; clock = s.clock; arrived = s.arrived.items; mark = s.mark; first_number = s.first_number }) (map packet_of all)
  not_made items all fault same kept_end refused some one =
      let faulty : (number : ℕ) × (make_fault s.end.params s.end.state d.safety s.clock why ≡ Some number) = ⊎_elim
      (λ (w : (number : ℕ) × (make_fault s.end.params s.end.state d.safety s.clock why ≡ Some number) × (fault ≡ fault_of_end number 0 s.end.state.side)). (w.0, w.1))
      (λ (w : (make_fault s.end.params s.end.state d.safety s.clock why ≡ None) × (fault ≡ no_memory)). absurd (memory_has_no_end fault some w.1))
      refused in
      let none : (r : RedundancyPdu) → Spells v.params v.station.state.side r payload.now → r.number ≡ next v.station → IsRecorded v.params channel
      → make_fault v.params v.station.state r.safety v.station.clock why ≡ None → ⊥ =
      λ r sp number rec calm. not_both (make_fault s.end.params s.end.state d.safety s.clock why) faulty.0 faulty.1
      (ap (λ (p : Parameters). make_fault p s.end.state d.safety s.clock why) kept.params
      ∙ (ap (λ (q : RedundancyPdu). make_fault s.params s.end.state q.safety s.clock why) (one r sp)
      ∙ subst (λ (w : JudgedStation). make_fault w.params w.station.state r.safety w.station.clock why ≡ None) (sym view) calm)) in (
        (λ i. record { state = (kept_end i).state; clock = s.clock; arrived = s.arrived.items; mark = s.mark; first_number = s.first_number }) ∙ ap (λ (w : JudgedStation). w.station) view,
        ap (map packet_of) same,
        (make_refused v.params b v.station (map packet_of items) channel payload why none).2,
      )

  -- it is made, and crosses
  pub made : (items all : List Datagram) → make_fault s.end.params s.end.state d.safety s.clock why ≡ None
      → e ≡ record { params = s.end.params; state = after_make s.end.state d.safety s.clock why }
      → Spells v.params v.station.state.side d payload.now → d.number ≡ next v.station → IsRecorded v.params channel
      → all ≡ items ++ record { channel = channel; side = s.side; payload = payload } ∷ []
      → Answers v.params b (map packet_of items) v.station (Make channel payload why) true
      (record { state = e.state; clock = s.clock; arrived = s.arrived.items; mark = s.mark; first_number = s.first_number }) (map packet_of all)
  made items all calm is sp number rec pushed =
      let datagram : Datagram = record { channel = channel; side = s.side; payload = payload } in
      let crossed : map packet_of all ≡ map packet_of items ++ record { channel = channel; side = s.end.state.side; payload = payload.now } ∷ [] =
      mapped items all datagram pushed ∙ ap (λ (side : Side). map packet_of items ++ record { channel = channel; side = side; payload = payload.now } ∷ []) kept.side in
      let P : JudgedStation → Type 0 = λ (w : JudgedStation). Spells w.params w.station.state.side d payload.now × (d.number ≡ next w.station) × IsRecorded w.params channel in
      let here = subst P (sym view) (sp, number, rec) in
      subst (λ (w : JudgedStation). Answers w.params b (map packet_of items) w.station (Make channel payload why) true
      (record { state = e.state; clock = s.clock; arrived = s.arrived.items; mark = s.mark; first_number = s.first_number }) (map packet_of all)) view
      (subst (λ (ys : List Packet). Answers s.params b (map packet_of items) (judged_station s).station (Make channel payload why) true
      (record { state = e.state; clock = s.clock; arrived = s.arrived.items; mark = s.mark; first_number = s.first_number }) ys) (sym crossed)
      (subst (λ (f : JudgedEnd). Answers s.params b (map packet_of items) (judged_station s).station (Make channel payload why) true
      (record { state = f.state; clock = s.clock; arrived = s.arrived.items; mark = s.mark; first_number = s.first_number })
      (map packet_of items ++ record { channel = channel; side = s.end.state.side; payload = payload.now } ∷ [])) (sym is)
      (make_made s.params b (judged_station s).station (map packet_of items) channel payload why d here.0 here.1 here.2
      (ap (λ (p : Parameters). make_fault p s.end.state d.safety s.clock why) (sym kept.params) ∙ calm))))

-- ---- in a world

moves_base : (p : Parameters) (b : Station) (xs : List Packet) (a a' : Station) (ys : List Packet) {label : Label} → Moves p b xs a label a' ys → a'.state.base ≡ a.state.base
moves_base p b xs a a' ys (makes x why e channel reserve check bytes mk sp rec) = (made_more p a.state x a.clock why e mk).base
moves_base p b xs a a' ys (takes position m e there above get tk) = ap (λ (f : EndState). f.base) tk.1 ∙ (take_leaves p a.state m.pdu).base
moves_base p b xs a a' ys _ = refl

answered_base : (p : Parameters) (b : Station) (xs : List Packet) (a : Station) (move : Move) (moved : Bool) (a' : Station) (ys : List Packet) → Answers p b xs a move moved a' ys → a'.state.base ≡ a.state.base
answered_base p b xs a move true a' ys h = moves_base p b xs a a' ys h.1
answered_base p b xs a move false a' ys h = ap (λ (c : Station). c.state.base) h.0

module _ {E : Type 0} (p : Parameters) (b : Station) (xs : List Packet) (v w : JudgedStation) (move : Move) (ys : List Packet) where
  pub base_kept : (r : Result Bool E) → IfOk r (λ moved. Answers p b xs v.station move moved w.station ys) → OnErr r (w ≡ v) → w.station.state.base ≡ v.station.state.base
  base_kept (Ok moved) h k = answered_base p b xs v.station move moved w.station ys h
  base_kept (Err e) h k = ap (λ (s : JudgedStation). s.station.state.base) k

module _ (p : Parameters) (w : World) (side : Side) (move : Move) (a : Station) (ys : List Packet) where
  answer : (moves : Bool) → Answers p (station_of w (other_side side)) w.crossed (station_of w side) move moves a ys → IsTrue moves → Step p w (moved w side a ys)
  answer true h t = side_moves side h.1
  answer false h t = absurd (let e : false ≡ true = t in cc)

  pub steps : {E : Type 0} (r : Result Bool E) → IfOk r (λ moves. Answers p (station_of w (other_side side)) w.crossed (station_of w side) move moves a ys) → IfOk r (λ moves. IsTrue moves → Step p w (moved w side a ys))
  steps r h = if_ok r _ _ h answer
