-- Which positions of an end are settled by types: all it offered is conveyed before it makes anything but retransmitted data and a disconnection request.
use Rattle.std.proofs.Common.{◌≡◌, ℕ, zero, suc, ◌+◌, ◌-◌, ◌<◌, ◌≤◌, true, false, List, [], ◌∷◌, ◌++◌, length, Some, slice_get, take, refl, ap, sym, ◌∙◌, arith}
use Rattle.std.proofs.Common.{length-append}
use Rattle.rasta_check.proofs.Prelude.{Side, Client, Phase, Closed, Owed, OweRetransmissionResponse, OweResend, OweRetransmissionRequest, Made, EndState, Kind, Data, RetransmittedData, is_kind}
use Rattle.rasta_check.proofs.Prelude.{SafetyPdu, Parameters, Why, MakeRow, TakeRow, Requested, RequestedAhead, RequestedWhileAsking, is_closed, after_make_by, after_take}
use Rattle.rasta_check.proofs.Prelude.{contents, content_of, last_of, resends, take_all, append-nil, take-append-le, length_push, slice_get_within, all_push, get_front}
use Rattle.rasta_check.proofs.Prelude.{carries_unit}
use Rattle.rasta_check.proofs.Lists.{take_one_more}
use Rattle.rasta_end.specs.MakeRule.{owed_after}
use Rattle.rasta_check.specs.Model.Settled.{is_settled, ends_burst, data_through, SettlesAt, plain, ended, again}
use Rattle.rasta_check.proofs.Model.Counts.{number, number_take_more, number_take_at}
use Rattle.rasta_check.proofs.Model.ConveyedUnits.{values, jump, units_next}
use Rattle.rasta_check.proofs.Model.Invariant.{Held}
use Rattle.rasta_check.proofs.Model.MakeRows.{Passed, Making, opening, MadeBy, new_made}
use Rattle.rasta_check.proofs.Model.TakeRows.{Knows, bare_effect, take_bare}
use Rattle.rasta_check.proofs.Model.InvariantAtTake.{Taken}
use Rattle.rasta_check.proofs.Model.OfferedUnits.{Valued, Due, bare_rest, contents_push, added, value, value_is, pushed, at_new, previous, owes_nothing, asked, back, bare_due, same_values}

-- ---- what is owed

-- resends come first, and behind them at most one thing, which is no retransmission response
abbrev pub LastOwed : List Owed → Type 0
LastOwed [] = Unit {0}
LastOwed (OweResend k ∷ os) = LastOwed os
LastOwed (OweRetransmissionResponse ∷ os) = ⊥
LastOwed (_ ∷ os) = os ≡ []

-- the same, where a retransmission response may come before them; it does only if all n units offered are conveyed, v
abbrev pub Awaits : ℕ → ℕ → List Owed → Type 0
Awaits v n (OweRetransmissionResponse ∷ os) = (v ≡ n) × LastOwed os
Awaits v n os = LastOwed os

rest_awaits : (v n : ℕ) (os : List Owed) → LastOwed os → Awaits v n os
rest_awaits v n os h = grind arith

none_awaits : (v n : ℕ) (os : List Owed) → os ≡ [] → Awaits v n os
none_awaits v n os e = rw e tt

resends_last : (u d : ℕ) (tail : List Owed) → LastOwed tail → LastOwed (resends u d ++ tail)
resends_last u zero tail h = h
resends_last u (suc d) tail h = resends_last (suc u) d tail h

-- what ends a burst is made only when all that was offered is conveyed
conveyed_by_then : {s : Side} {ph : Phase} {why : Why} {k : Kind} {os : List Owed} {row : MakeRow} (u v n : ℕ) → (s ≡ Client → ph ≡ Closed → os ≡ [])
    → Making s ph why k os row → Due u v n os → Awaits v n os → ends_burst k ≡ true → v ≡ n
conveyed_by_then {os = os} u v n free opening d a b = bare_rest u v n os (free refl refl) d
conveyed_by_then u v n free _ d a b = grind (arith, d, a)

-- a make keeps the order of what is owed
awaits_after : {s : Side} {ph : Phase} {why : Why} {k : Kind} {os : List Owed} {row : MakeRow} (v n v' n' : ℕ) → (s ≡ Client → ph ≡ Closed → os ≡ [])
    → Making s ph why k os row → Awaits v n os → Awaits v' n' (owed_after row os)
awaits_after {os = os} v n v' n' free opening a = none_awaits v' n' os (free refl refl)
awaits_after v n v' n' free _ a = grind (arith, a, rest_awaits, none_awaits)

-- ---- data up to a position

-- they are those before it, and its own
data_next : (ms : List Made) (p : ℕ) (m : Made) → slice_get ms p ≡ Some m → data_through ms p ≡ length (contents (take p ms)) + length (added m.pdu.kind (content_of m.pdu.body))
data_next ms p m g =
    let next : p + 1 ≡ suc p = omega arith in
    let more : take p ms ++ m ∷ [] ≡ take (suc p) ms = take_one_more p ms m g ∙ ap (λ n. take n ms) next in
    sym (ap (λ (xs : List Made). length (contents xs)) more)
    ∙ (ap length (contents_push (take p ms) m) ∙ length-append (contents (take p ms)) (added m.pdu.kind (content_of m.pdu.body)))

data_count : (ms : List Made) → length (contents ms) ≡ number (is_kind Data) ms
data_count [] = refl
data_count (m ∷ ms) = grind (arith, data_count ms)

pub data_more : (ms : List Made) (i j : ℕ) → i ≤ j → length (contents (take i ms)) ≤ length (contents (take j ms))
data_more ms i j l = omega (arith, number_take_more (is_kind Data) ms i j l, data_count (take i ms), data_count (take j ms))

-- a data PDU adds one
pub data_at : (ms : List Made) (p : ℕ) (m : Made) → slice_get ms p ≡ Some m → is_kind Data m.pdu.kind ≡ true → data_through ms p ≡ suc (length (contents (take p ms)))
data_at ms p m g k = omega (arith, number_take_at (is_kind Data) ms p m g k, data_count (take (suc p) ms), data_count (take p ms))

-- those up to an old position are the same in the longer list
data_old : (ms : List Made) (m : Made) (p : ℕ) → p < length ms → data_through (ms ++ m ∷ []) p ≡ data_through ms p
data_old ms m p l = ap (λ (xs : List Made). length (contents xs)) (take-append-le (suc p) ms (m ∷ []) (omega (arith, l)))

-- those up to the last position are all
data_all : (ms : List Made) (p : ℕ) → length ms ≡ suc p → data_through ms p ≡ length (contents ms)
data_all ms p e = ap (λ (xs : List Made). length (contents xs)) (take_all (suc p) ms (omega (arith, e)))

-- ---- the positions

-- through a settled PDU all that was offered by then is conveyed, and so it is before one that ends a burst
pub record Settling (vs : List ℕ) (ms : List Made) : Type 0 where
  pub through : (p : ℕ) (m : Made) → slice_get ms p ≡ Some m → is_settled m.pdu.kind ≡ true → slice_get vs p ≡ Some (data_through ms p)
  pub before : (p : ℕ) (m : Made) → slice_get ms p ≡ Some m → ends_burst m.pdu.kind ≡ true → (q : ℕ) → p ≡ suc q → slice_get vs q ≡ Some (data_through ms q)

-- vs: the units conveyed through each position, ms: what the end made, n: how many units it offered, os: what it owes
pub record KeepsSettled (vs : List ℕ) (ms : List Made) (n : ℕ) (os : List Owed) : Type 0 where
  pub owing : Awaits (last_of vs) n os
  pub positions : Settling vs ms

abbrev pub Settled : EndState → Type 0
Settled e = KeepsSettled (values e) e.made e.offered e.owed

-- ---- a make

-- what a settled PDU conveys is what was offered with it
settled_next : (u n : ℕ) (k : Kind) (content : List ℕ) → is_settled k ≡ true → units_next u n k ≡ n + length (added k content)
settled_next u n k content s = grind arith

settled_ends : (k : Kind) → is_settled k ≡ true → ends_burst k ≡ true
settled_ends k s = grind arith

module _ (p : Parameters) (e : EndState) (x : SafetyPdu) (clock : ℕ) (why : Why) (t : ℕ) (peer : List Made) (b : MadeBy e x why) (pass : Passed p e x clock why) (h : Held e t peer) (w : Valued e) (g : Settled e) where
  abbrev new : Made
  new = new_made b.row e x

  abbrev new_value : ℕ
  new_value = value p e x clock why t peer b pass h w

  free : e.side ≡ Client → e.phase ≡ Closed → e.owed ≡ []
  free = owes_nothing p e x clock why t peer b pass h w

  all_by_then : ends_burst x.kind ≡ true → last_of (values e) ≡ e.offered
  all_by_then k = conveyed_by_then (jump e) (last_of (values e)) e.offered free b.how (w.due pass.open_yet) g.owing k

  data_new : data_through (e.made ++ new ∷ []) (length e.made) ≡ e.offered + length (added x.kind (content_of x.body))
  data_new =
      data_all (e.made ++ new ∷ []) (length e.made) (length_push e.made new ∙ omega arith)
      ∙ (ap length (contents_push e.made new)
      ∙ (length-append (contents e.made) (added x.kind (content_of x.body)) ∙ ap (λ n. n + length (added x.kind (content_of x.body))) w.contents.counted))

  through_new : is_settled x.kind ≡ true → new_value ≡ data_through (e.made ++ new ∷ []) (length e.made)
  through_new k =
      value_is p e x clock why t peer b pass h w
      ∙ (ap (λ v. units_next (jump e) v x.kind) (all_by_then (settled_ends x.kind k))
      ∙ (settled_next (jump e) e.offered x.kind (content_of x.body) k ∙ sym data_new))

  old : (i n : ℕ) → slice_get (values e) i ≡ Some n → slice_get (values e ++ new_value ∷ []) i ≡ Some n
  old i n a = get_front (values e) (new_value ∷ []) i n a

  pub settled_make : Settled (after_make_by (Some b.row) e x clock)
  settled_make =
      record {
        owing = awaits_after (last_of (values e)) e.offered _ _ free b.how g.owing;
        positions = rw (pushed p e x clock why t peer b pass h w) (record {
          through = all_push e.made new
              (λ i m a k. rw (data_old e.made new i (slice_get_within e.made i m a)) (old i _ (g.positions.through i m a k)))
              (λ k. at_new p e x clock why t peer b pass h w ∙ ap Some (through_new k));
          before = all_push e.made new
              (λ i m a k q s. rw (data_old e.made new q (omega (arith, slice_get_within e.made i m a, s))) (old q _ (g.positions.before i m a k q s)))
              (λ k q s.
              previous p e x clock why t peer b pass h w q s
              ∙ ap Some (all_by_then k ∙ (sym w.contents.counted ∙ (sym (data_all e.made q s) ∙ sym (data_old e.made new q (omega (arith, s)))))));
        });
      }

-- ---- a take

module _ (q : Parameters) (e f : EndState) (t u : ℕ) (m : Made) (p : ℕ) (k : Taken e f t u m p) (w : Valued e) (g : Settled e) (free : e.owed ≡ []) (away : is_closed e.phase ≡ false) where
  abbrev ask_units : ℕ
  ask_units = back q e f t u m p k w free away

  -- the burst that is owed, with a request after it or without
  burdened : (d : ℕ) (tail : List Owed) → LastOwed tail
      → KeepsSettled (values (asked q e f t u m p k w free away)) e.made e.offered (OweRetransmissionResponse ∷ (resends ask_units d ++ tail))
  burdened d tail l =
      rw (same_values q e f t u m p k w free away) (record { owing = (bare_due q e f t u m p k w free away, resends_last ask_units d tail l); positions = g.positions })

  s_row : (r : TakeRow) → Knows q r e m.pdu → Settled (bare_effect q r e m.pdu)
  s_row Requested x = rw (append-nil (resends ask_units (e.offered - ask_units))) at (burdened (e.offered - ask_units) [] tt)
  s_row RequestedAhead x = burdened (e.offered - ask_units) (OweRetransmissionRequest ∷ []) refl
  s_row RequestedWhileAsking x = rw (append-nil (resends ask_units (e.offered - ask_units))) at (burdened (e.offered - ask_units) [] tt)
  s_row r x = grind (arith, g)

pub settled_take : (q : Parameters) (e f : EndState) (t u : ℕ) (m : Made) (p : ℕ) (k : Taken e f t u m p) (w : Valued e) → Settled e → (is_closed e.phase ≡ false → e.owed ≡ []) → Settled (after_take q e m.pdu)
settled_take q e f t u m p k w g free = take_bare q e m.pdu Settled (λ i a h. h) g (λ r away x. s_row q e f t u m p k w g (free away) away r x)

-- ---- what is settled

resent_adds_none : (k : Kind) (content : List ℕ) → is_kind RetransmittedData k ≡ true → (carries_unit k ≡ true) × (length (added k content) ≡ 0)
resent_adds_none k content h = grind (arith, h)

-- a settled position conveys all but those that lag behind
pub settled_at : (e : EndState) → Valued e → Settled e → (c k : ℕ) → SettlesAt e.made c k → (v : ℕ) × (slice_get (values e) c ≡ Some v) × (v + k ≡ data_through e.made c)
settled_at e w g c k (plain m a s) = (data_through e.made c, g.positions.through c m a s, omega arith)
settled_at e w g c k (ended m a s) = (data_through e.made c, g.positions.before (suc c) m a s c refl, omega arith)
settled_at e w g c k (again {lag = j} m a s r) =
    let z = settled_at e w g (suc c) j r in
    let none = resent_adds_none m.pdu.kind (content_of m.pdu.body) s in
    -- retransmitted data convey one unit more than the position before
    let y = w.positions.units (suc c) m a none.0 in
    let same : y.0 ≡ c = omega (arith, y.2) in
    let both : Some (suc y.1) ≡ Some z.0 = sym y.5 ∙ z.1 in
    let one : suc y.1 ≡ z.0 = cc in
    (y.1, ap (slice_get (values e)) (sym same) ∙ y.4, omega (arith, one, z.2, data_next e.made (suc c) m a, none.1))
