-- The units that an end offered: what it owes leads to them, its positions convey them, its PDUs carry them, and makes and takes keep that.
use Rattle.std.proofs.Common.{◌≡◌, ℕ, zero, suc, ◌+◌, ◌-◌, ◌<◌, ◌≤◌, true, false, List, [], ◌∷◌, ◌++◌, length, Some, slice_get, take, refl, arith, ◌⊎◌, Option, sym, ◌∙◌, inr}
use Rattle.std.proofs.Common.{length-append}
use Rattle.rasta_check.proofs.Prelude.{slice_index_or, unwrap_or-slice_get, Side, Phase, Owed, OweRetransmissionResponse, OweResend, Made, EndState, kinds, is_connected, carries_unit}
use Rattle.rasta_check.proofs.Prelude.{content_of, last_of, units_at, contents, resends, is_kind, Data, take-append_seam, take-append-le, append-nil, length_push, slice_get_within}
use Rattle.rasta_check.proofs.Prelude.{slice_get-get_or, bytes_eq-Decides, Client, Kind, RetransmissionResponse, Parameters, SafetyPdu, Closed, Why, MakeRow, OweRetransmissionRequest}
use Rattle.rasta_check.proofs.Prelude.{TakeRow, Requested, RequestedAhead, RequestedWhileAsking, is_closed, position_confirmed, phase_after, after_make_by, after_take, all_push, get_front}
use Rattle.rasta_check.proofs.Prelude.{get_front_within, get_push}
use Rattle.rasta_end.specs.Units.{all_units_conveyed, units_after, units_conveyed}
use Rattle.rasta_end.specs.MakeRule.{differs, unit_of, owed_after, offered_after}
use Rattle.rasta_check.proofs.Model.Counts.{answers_in, IsAnswer, number_take_all, number_take_at}
use Rattle.rasta_check.proofs.Model.ConveyedUnits.{is_plain, values, jump, last_push, last_get, values_push, values_asks, length-values, units_next, after_is}
use Rattle.rasta_check.proofs.Model.Invariant.{ended, Held}
use Rattle.rasta_check.proofs.Model.MakeRows.{Passed, Making, opening, MadeBy, new_made}
use Rattle.rasta_check.proofs.Model.TakeRows.{Knows, bare_effect, take_bare}
use Rattle.rasta_check.proofs.Model.InvariantAtMake.{over_after, nothing_made}
use Rattle.rasta_check.proofs.Model.InvariantAtTake.{Taken, mark, no_answers, is_inner, inner}

-- from v units conveyed, what is owed leads to n
abbrev pub DueRest : ℕ → ℕ → List Owed → Type 0
DueRest v n [] = v ≡ n
DueRest v n (OweResend k ∷ os) = (k ≡ v) × DueRest (suc v) n os
DueRest v n (OweRetransmissionResponse ∷ os) = ⊥
DueRest v n (_ ∷ os) = DueRest v n os

-- the same, where a retransmission response goes back to u
abbrev pub Due : ℕ → ℕ → ℕ → List Owed → Type 0
Due u v n (OweRetransmissionResponse ∷ os) = DueRest u n os
Due u v n os = DueRest v n os

-- What holds comes in slices, each over what it reads of the end. vs: the units conveyed through each position, ms: what
-- the end made, qs: its asks, n: how many units it offered, os: what it owes

-- a position that carries unit k conveys k + 1, and the one before it k; a plain one conveys no more than the one before it
pub record Conveying (vs : List ℕ) (ms : List Made) (n : ℕ) : Type 0 where
  pub bounded : (p v : ℕ) → slice_get vs p ≡ Some v → v ≤ n
  pub units : (p : ℕ) (m : Made) → slice_get ms p ≡ Some m → carries_unit m.pdu.kind ≡ true
      → (q : ℕ) × (k : ℕ) × (p ≡ suc q) × (m.unit ≡ Some k) × (slice_get vs q ≡ Some k) × (slice_get vs p ≡ Some (suc k))
  pub others : (p : ℕ) (m : Made) → slice_get ms p ≡ Some m → is_plain m.pdu.kind ≡ true → (q : ℕ) → p ≡ suc q → slice_get vs p ≡ slice_get vs q
  pub zeroth : slice_index_or vs 0 0 ≡ 0

-- a retransmission response goes back to its ask; asks are own positions
pub record Returning (vs : List ℕ) (ms : List Made) (qs : List ℕ) : Type 0 where
  pub jumps : (p : ℕ) (m : Made) → slice_get ms p ≡ Some m → IsAnswer m
      → (c : ℕ) → slice_get qs (answers_in (take p ms)) ≡ Some c → (c < p) × (slice_get vs p ≡ slice_get vs c)
  pub asks_within : (i c : ℕ) → slice_get qs i ≡ Some c → c < length ms

-- the k-th data PDU carries unit k, and whatever carries unit k has its content
pub record Carrying (ms : List Made) (n : ℕ) : Type 0 where
  pub counted : length (contents ms) ≡ n
  pub fresh : (p : ℕ) (m : Made) → slice_get ms p ≡ Some m → is_kind Data m.pdu.kind ≡ true → m.unit ≡ Some (length (contents (take p ms)))
  pub carried : (p : ℕ) (m : Made) → slice_get ms p ≡ Some m → (k : ℕ) → m.unit ≡ Some k → (carries_unit m.pdu.kind ≡ true) × (slice_get (contents ms) k ≡ Some (content_of m.pdu.body))

pub record Offers (s : Side) (ph : Phase) (ms : List Made) (qs : List ℕ) (n : ℕ) (os : List Owed) : Type 0 where
  -- what is owed leads from the units conveyed to those offered
  pub due : ended s ph ms ≡ false → Due (units_at (all_units_conveyed qs (kinds ms)) (slice_get qs (answers_in ms))) (last_of (all_units_conveyed qs (kinds ms))) n os
  pub grown : is_connected ph ≡ true → 0 < length ms
  pub positions : Conveying (all_units_conveyed qs (kinds ms)) ms n
  pub returns : Returning (all_units_conveyed qs (kinds ms)) ms qs
  pub contents : Carrying ms n

abbrev pub Valued : EndState → Type 0
Valued e = Offers e.side e.phase e.made e.asks e.offered e.owed

pub conveyed_most : (vs : List ℕ) (n c : ℕ) → ((p v : ℕ) → slice_get vs p ≡ Some v → v ≤ n) → slice_index_or vs c 0 ≤ n
conveyed_most vs n c h = grind (arith, h, unwrap_or-slice_get vs c 0)

-- What is owed.

pub bare_rest : (u v n : ℕ) (os : List Owed) → os ≡ [] → Due u v n os → v ≡ n
bare_rest u v n os e d = rw e at d

pub rest_due : (u v n : ℕ) (os : List Owed) → DueRest v n os → Due u v n os
rest_due u v n os h = grind arith

pub due_le : (v n : ℕ) (os : List Owed) → DueRest v n os → v ≤ n
due_le v n [] h = omega arith
due_le v n (o ∷ os) h = grind (arith, h, due_le v n os, due_le (suc v) n os)

-- what a retransmission burst owes leads to the units offered
resends_due_at : (u d n : ℕ) (tail : List Owed) → u + d ≡ n → DueRest n n tail → DueRest u n (resends u d ++ tail)
resends_due_at u zero n tail e h = (let s : u ≡ n = omega (arith, e) in rw s h)
resends_due_at u (suc d) n tail e h = (refl, resends_due_at (suc u) d n tail (omega (arith, e)) h)

-- ---- a make

-- What a row does: u are the units at the ask that is answered next, v the units conveyed so far, n those offered.

-- the connection is over, or what is owed leads to the units offered
abbrev Leads : ℕ → ℕ → ℕ → Phase → Kind → MakeRow → List Owed → Type 0
Leads u v n ph k row os = ((phase_after row ph ≡ Closed) × (is_plain k ≡ true)) ⊎ DueRest (units_next u v k) (offered_after row n) (owed_after row os)

leads : {s : Side} {ph : Phase} {why : Why} {k : Kind} {os : List Owed} {row : MakeRow} (u v n : ℕ) → (s ≡ Client → ph ≡ Closed → os ≡ []) → Making s ph why k os row → Due u v n os → Leads u v n ph k row os
leads {os = os} u v n free opening d = (let none = free refl refl in inr (rw none (bare_rest u v n os none d)))
leads u v n free _ d = grind (arith, d)

-- a unit is made by an end that is connected; it is the next one
unit_made : {s : Side} {ph : Phase} {why : Why} {k : Kind} {os : List Owed} {row : MakeRow} (u v n : ℕ) → Making s ph why k os row → Due u v n os → carries_unit k ≡ true → unit_of row n ≡ Some v
unit_made u v n h g l = grind arith

unit_runs : {s : Side} {ph : Phase} {why : Why} {k : Kind} {os : List Owed} {row : MakeRow} → Making s ph why k os row → is_plain k ≡ false → is_connected ph ≡ true
unit_runs h g = grind arith

offered_least : (row : MakeRow) (n : ℕ) → n ≤ offered_after row n
offered_least row n = grind arith

last_most : (vs : List ℕ) (n : ℕ) → ((i v : ℕ) → slice_get vs i ≡ Some v → v ≤ n) → last_of vs ≤ n
last_most [] n h = omega arith
last_most (v ∷ vs) n h = h (length vs) (last_of (v ∷ vs)) (last_get (v ∷ vs) (length vs) refl)

-- What a row adds to the contents of the units offered: nothing, or one.

abbrev pub added : Kind → List ℕ → List (List ℕ)
added Data content = content ∷ []
added _ content = []

record Adds (ms : List Made) (n : ℕ) (k : Kind) (content : List ℕ) (unit : Option ℕ) (n' : ℕ) : Type 0 where
  size : n' ≡ n + length (added k content)
  number_is : is_kind Data k ≡ true → unit ≡ Some n
  has : (j : ℕ) → unit ≡ Some j → (carries_unit k ≡ true) × (slice_get (contents ms ++ added k content) j ≡ Some content)

adds : {s : Side} {ph : Phase} {why : Why} {k : Kind} {os : List Owed} {row : MakeRow} (ms : List Made) (n : ℕ) (content : List ℕ)
    → length (contents ms) ≡ n → Making s ph why k os row → differs ms (Some row) content ≡ false → Adds ms n k content (unit_of row n) (offered_after row n)
adds ms n content l how d = grind (arith, append-nil, bytes_eq-Decides, get_push)

pub contents_push : (ms : List Made) (m : Made) → contents (ms ++ m ∷ []) ≡ contents ms ++ added m.pdu.kind (content_of m.pdu.body)
contents_push [] m = grind arith
contents_push (x ∷ ms) m = grind (arith, contents_push ms m)

carries : (ms : List Made) (m : Made) (n n' : ℕ) → Carrying ms n → Adds ms n m.pdu.kind (content_of m.pdu.body) m.unit n' → Carrying (ms ++ m ∷ []) n'
carries ms m n n' w a =
    record {
      counted = grind (arith, contents_push, length-append, a, w.counted);
      fresh = all_push ms m (grind (arith, slice_get_within, take-append-le, w.fresh)) (grind (arith, take-append_seam, w.counted, a.number_is));
      carried = all_push ms m
          (λ i y g k u. (let r = w.carried i y g k u in (r.0, rw (contents_push ms m) (get_front (contents ms) _ k (content_of y.pdu.body) r.1))))
          (λ k u. rw (contents_push ms m) (a.has k u));
    }

module _ (p : Parameters) (e : EndState) (x : SafetyPdu) (clock : ℕ) (why : Why) (t : ℕ) (peer : List Made) (b : MadeBy e x why) (pass : Passed p e x clock why) (h : Held e t peer) (w : Valued e) where
  abbrev after : EndState
  after = after_make_by (Some b.row) e x clock

  abbrev new : Made
  new = new_made b.row e x

  abbrev pub value : ℕ
  value = units_after e.asks (values e) (answers_in e.made) x.kind

  pub pushed : values after ≡ values e ++ value ∷ []
  pushed = values_push e.asks e.made new

  long : length (values e) ≡ length e.made
  long = length-values e.asks e.made

  abbrev next : ℕ
  next = units_next (jump e) (last_of (values e)) x.kind

  pub value_is : value ≡ next
  value_is = after_is e.asks (values e) (answers_in e.made) x.kind (λ u. omega (arith, long, w.grown (unit_runs b.how u)))

  -- a client that has made nothing owes nothing
  pub owes_nothing : e.side ≡ Client → e.phase ≡ Closed → e.owed ≡ []
  owes_nothing s c = (h.opening.unmade s (nothing_made e.side e.phase e.made c pass.open_yet)).1

  step : Leads (jump e) (last_of (values e)) e.offered e.phase x.kind b.row e.owed
  step = leads (jump e) (last_of (values e)) e.offered owes_nothing b.how (w.due pass.open_yet)

  value_most : value ≤ after.offered
  value_most = grind (arith, step, value_is, last_most (values e) e.offered w.positions.bounded, offered_least b.row e.offered, due_le next after.offered after.owed)

  -- The units conveyed through each position.

  pub at_new : slice_get (values e ++ value ∷ []) (length e.made) ≡ Some value
  at_new = rw (← long) (get_push (values e) value)

  both_old : (i j : ℕ) → slice_get (values e) i ≡ slice_get (values e) j → i < length e.made → j < length e.made → slice_get (values e ++ value ∷ []) i ≡ slice_get (values e ++ value ∷ []) j
  both_old i j g a c = get_front_within (values e) (value ∷ []) i (omega (arith, long, a)) ∙ (g ∙ sym (get_front_within (values e) (value ∷ []) j (omega (arith, long, c))))

  pub previous : (i : ℕ) → length e.made ≡ suc i → slice_get (values e ++ value ∷ []) i ≡ Some (last_of (values e))
  previous i g = get_front (values e) (value ∷ []) i _ (last_get (values e) i (long ∙ g))

  pub valued_make : Valued after
  valued_make =
      record {
        due = grind (arith, last_push, over_after, pushed, rest_due, step, value_is);
        grown = λ _. omega (arith, length_push e.made new);
        positions = rw pushed (record {
          bounded = all_push {P = λ i v. v ≤ after.offered} (values e) value (λ i v g. omega (arith, w.positions.bounded i v g, offered_least b.row e.offered)) value_most;
          units = all_push e.made new
              (grind (arith, w.positions.units, get_front))
              (λ u.
              let last : length e.made ≡ suc (length e.made - 1) = omega (arith, w.grown (unit_runs b.how (grind arith))) in
              grind (arith, unit_made (jump e) (last_of (values e)) e.offered b.how (w.due pass.open_yet), previous, at_new, value_is));
          others = all_push e.made new
              (grind (arith, slice_get_within, both_old, w.positions.others)) (grind (arith, at_new, value_is, previous));
          zeroth = grind (arith, w.positions.zeroth);
        });
        returns = rw pushed (record {
          jumps = all_push e.made new
              (λ i n g u c a.
              let l = slice_get_within e.made i n g in
              grind (arith, take-append-le i e.made (new ∷ []), w.returns.jumps i n g u c, both_old i c))
              (λ u c a.
              let a' : slice_get e.asks (answers_in e.made) ≡ Some c = rw (take-append_seam e.made (new ∷ [])) at a in
              grind (arith, w.returns.asks_within, at_new, value_is, u, get_front_within (values e) (value ∷ []) c, long, slice_get-get_or));
          asks_within = λ i c g. omega (arith, w.returns.asks_within i c g, length_push e.made new);
        });
        contents = carries e.made new e.offered after.offered w.contents (adds e.made e.offered (content_of x.body) w.contents.counted b.how (rw b.is at pass.same));
      }

-- ---- a take

module _ (q : Parameters) (e f : EndState) (t u : ℕ) (m : Made) (p : ℕ) (k : Taken e f t u m p) (w : Valued e) (free : e.owed ≡ []) (away : is_closed e.phase ≡ false) where
  pub bare_due : last_of (values e) ≡ e.offered
  bare_due = bare_rest (jump e) (last_of (values e)) e.offered e.owed free (w.due (grind arith))

  inner_some : (row : TakeRow) → Knows q row e m.pdu → is_inner row ≡ true → 0 < length e.made
  inner_some row x inside = grind (arith, inner q row e m.pdu inside x, mark q e f t u m p k)

  -- A request's ask joins the asks.

  -- the end once it has
  abbrev pub asked : EndState
  asked = record e { asks = e.asks ++ position_confirmed e m.pdu ∷ [] }

  pub same_values : values asked ≡ values e
  same_values = values_asks e.asks _ e.made k.mine.asks.asked

  -- the units conveyed through the ask
  abbrev pub back : ℕ
  back = units_conveyed e.asks (kinds e.made) (position_confirmed e m.pdu)

  burst_jump : jump asked ≡ back
  burst_jump = grind (arith, no_answers q e f t u m p k free away, get_push e.asks (position_confirmed e m.pdu), same_values)

  -- what a burst owes, with a request after it or without
  burst_due : (tail : List Owed) → DueRest e.offered e.offered tail → DueRest (jump asked) e.offered (resends back (e.offered - back) ++ tail)
  burst_due tail d = rw burst_jump (resends_due_at back (e.offered - back) e.offered tail (omega (arith, conveyed_most (values e) e.offered (position_confirmed e m.pdu) w.positions.bounded)) d)

  burdened : (row : TakeRow) → Knows q row e m.pdu → is_inner row ≡ true → {ph : Phase} {rest : List Owed} → DueRest (jump asked) e.offered rest
      → Offers e.side ph e.made asked.asks e.offered (OweRetransmissionResponse ∷ rest)
  burdened row x inside d =
      let i = inner q row e m.pdu inside x in
      record {
        due = λ o. d;
        grown = λ _. inner_some row x inside;
        positions = rw same_values w.positions;
        returns = rw same_values (record {
          jumps = λ i n g b d a.
              let next = number_take_at (is_kind RetransmissionResponse) e.made i n g b in
              w.returns.jumps i n g b d (sym (get_front_within e.asks _ _ (omega (arith, number_take_all, next, no_answers q e f t u m p k free away))) ∙ a);
          asks_within = all_push {P = λ i d. d < length e.made} e.asks _ w.returns.asks_within (let z = mark q e f t u m p k i.1 i.2 in omega (arith, z.2, z.3));
        });
        contents = w.contents;
      }

  -- each row
  v_row : (r : TakeRow) → Knows q r e m.pdu → Valued (bare_effect q r e m.pdu)
  v_row Requested x = burdened Requested x refl (rw (append-nil (resends back (e.offered - back))) at (burst_due [] refl))
  v_row RequestedAhead x = burdened RequestedAhead x refl (burst_due (OweRetransmissionRequest ∷ []) refl)
  v_row RequestedWhileAsking x = burdened RequestedWhileAsking x refl (rw (append-nil (resends back (e.offered - back))) at (burst_due [] refl))
  v_row r x = grind (arith, w, bare_due, mark q e f t u m p k, inner_some r x)

pub valued_take : (q : Parameters) (e f : EndState) (t u : ℕ) (m : Made) (p : ℕ) (k : Taken e f t u m p) (w : Valued e) → (is_closed e.phase ≡ false → e.owed ≡ []) → Valued (after_take q e m.pdu)
valued_take q e f t u m p k w free = take_bare q e m.pdu Valued (λ i g h. h) w (λ r away x. v_row q e f t u m p k w (free away) away r x)
