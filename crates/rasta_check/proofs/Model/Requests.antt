-- What an end was asked, and what its retransmission responses answer.
use Rattle.std.proofs.Common.{◌≡◌, ℕ, zero, suc, ◌<◌, Bool, true, false, List, [], ◌∷◌, length, Some, slice_get, take, refl, sym, arith, subst}
use Rattle.rasta_check.proofs.Prelude.{filter, slice_index_or, take-append_seam, nat_tests, slice_get_within, slice_get-get_or, Kind, RetransmissionRequest, RetransmissionResponse}
use Rattle.rasta_check.proofs.Prelude.{SafetyPdu, is_kind, Made, EndState, kinds, pdus_made, position_with, asked_positions, NamesOne, begins_with, get_next}
use Rattle.rasta_end.specs.Units.{responses_in}
use Rattle.rasta_check.specs.Model.Laws.{requests_of, AnswersInOrder}
use Rattle.rasta_check.proofs.Model.Counts.{number, tally, number_take_all, number_take_at, requests_in, answers_in, IsRequest}
use Rattle.rasta_check.proofs.Model.NamedPositions.{SnIs}
use Rattle.rasta_check.proofs.Model.Invariant.{Held}
use Rattle.rasta_check.proofs.Model.ConveyedUnits.{answers_number}
use Rattle.rasta_check.proofs.Model.OfferedUnits.{Valued}

-- ---- the position that a CS confirms

-- an SN names one position of these PDUs
abbrev pub OnceIn : List Made → Type 0
OnceIn ms = (i j : ℕ) (m n : Made) → slice_get ms i ≡ Some m → slice_get ms j ≡ Some n → m.pdu.sn ≡ n.pdu.sn → i ≡ j

-- where an SN names one position it is the one that a CS confirms
pub named_position : (ms : List Made) (c sn : ℕ) → OnceIn ms → SnIs ms c sn → position_with (pdus_made ms) sn ≡ Some c
named_position [] c sn once s = absurd (let e = s.there in cc)
named_position (x ∷ ms) zero sn once s = grind arith
named_position (x ∷ ms) (suc c) sn once s =
    let later = named_position ms c sn (λ i j m n e f g. omega (arith, once (suc i) (suc j) m n e f g)) (record { m = s.m; there = s.there; same = s.same }) in
    grind (arith, nat_tests, later, s.same, once 0 (suc c) x s.m refl s.there)

-- the position that a CS confirms has this SN
pub found_position : (ms : List Made) (sn c : ℕ) → position_with (pdus_made ms) sn ≡ Some c → SnIs ms c sn
found_position [] sn c g = absurd (cc)
found_position (m ∷ ms) sn zero g = record { m = m; there = refl; same = grind (arith, nat_tests, g) }
found_position (m ∷ ms) sn (suc c) g = (let s = found_position ms sn c (grind (arith, g)) in record { m = s.m; there = s.there; same = s.same })

-- ---- the k-th of a kind

-- the position of the k-th of a kind
pub record Found (f : Kind → Bool) (ms : List Made) (k : ℕ) : Type 0 where
  pub at : ℕ
  pub m : Made
  pub there : slice_get ms at ≡ Some m
  pub is : f m.pdu.kind ≡ true
  pub before : number f (take at ms) ≡ k
  pub listed : slice_get (filter (λ (n : Made). f n.pdu.kind) ms) k ≡ Some m

pub found : (f : Kind → Bool) (ms : List Made) (k : ℕ) → k < number f ms → Found f ms k
found f [] k l = absurd (omega (arith, l))
found f (x ∷ ms) k l = by (f x.pdu.kind) refl k l (found f ms)
  where
    by : (b : Bool) → f x.pdu.kind ≡ b → (k : ℕ) → k < tally b (number f ms) → ((j : ℕ) → j < number f ms → Found f ms j) → Found f (x ∷ ms) k
    by true e zero l rest = record { at = 0; m = x; there = refl; is = e; before = refl; listed = grind (arith, e) }
    by true e (suc k) l rest = (let r = rest k (omega (arith, l)) in record { at = suc r.at; m = r.m; there = r.there; is = r.is; before = grind (arith, r.before); listed = grind (arith, e, r.listed) })
    by false e k l rest = (let r = rest k l in record { at = suc r.at; m = r.m; there = r.there; is = r.is; before = grind (arith, r.before); listed = grind (arith, e, r.listed) })

-- ---- what each request confirms

-- each request confirms a position
abbrev pub AllNamed : List SafetyPdu → List Made → Type 0
AllNamed own ms = (p : ℕ) (m : Made) → slice_get ms p ≡ Some m → IsRequest m → (d : ℕ) × (position_with own m.pdu.cs ≡ Some d)

-- the position that the k-th request confirms, by the position of the request
pub asked_at : (own : List SafetyPdu) (ms : List Made) → AllNamed own ms → (p : ℕ) (m : Made) (c : ℕ) → slice_get ms p ≡ Some m → IsRequest m
    → position_with own m.pdu.cs ≡ Some c → slice_get (asked_positions own (pdus_made ms)) (requests_in (take p ms)) ≡ Some c
asked_at own [] all p m c e r h = absurd (cc)
asked_at own (x ∷ ms) all p m c e r h = grind (arith, all 0 x refl, asked_at own ms (λ q n g. all (suc q) n g))

-- ---- asks and answers

module _ (e f : EndState) (t u : ℕ) (h : Held e t f.made) (peer : Held f u e.made) (w : Valued e) (once : NamesOne e f) where
  all_named : AllNamed (pdus_made e.made) f.made
  all_named p m g r = (let n = peer.accepts.named p m g (grind (arith, r)) in (n.0, named_position e.made n.0 m.pdu.cs once n.2))

  -- the k-th ask is that of the k-th request
  pub ask_at : (k c : ℕ) → slice_get e.asks k ≡ Some c
      → (m : Made) × (slice_get (requests_of f.made) k ≡ Some m) × (position_with (pdus_made e.made) m.pdu.cs ≡ Some c) × (slice_get (asked_positions (pdus_made e.made) (pdus_made f.made)) k ≡ Some c)
  ask_at k c g =
      let few = slice_get_within e.asks k c g in
      let r = found (is_kind RetransmissionRequest) f.made k (omega (arith, few, h.asks.asks_taken, number_take_all (is_kind RetransmissionRequest) f.made t)) in
      let g' = rw (← r.before) at g in
      let at = named_position e.made c r.m.pdu.cs once (h.asks.answered r.at r.m r.there r.is c g') in (
        r.m,
        r.listed,
        at,
        rw r.before at (asked_at (pdus_made e.made) f.made all_named r.at r.m c r.there r.is at),
      )

  pub in_order : AnswersInOrder e f
  in_order = record {
    named = all_named;
    beginning = begins_with e.asks (asked_positions (pdus_made e.made) (pdus_made f.made)) (λ k c g. (ask_at k c g).3);
    answers = λ before after m is r.
        let there : slice_get e.made (length before) ≡ Some m = subst (λ (ms : List Made). slice_get ms (length before) ≡ Some m) (sym is) (get_next before (m ∷ after)) in
        let n = responses_in (kinds before) in
        let n_is : n ≡ answers_in (take (length before) e.made) = grind (arith, answers_number, take-append_seam) in
        let one = number_take_at (is_kind RetransmissionResponse) e.made (length before) m there r in
        let ask = slice_index_or e.asks n 0 in
        let asked = slice_get-get_or e.asks n 0 (omega (arith, number_take_all, n_is, one, h.asks.asked)) in
        let request = ask_at n ask asked in
        let jump = w.returns.jumps (length before) m there r ask (subst (λ k. slice_get e.asks k ≡ Some ask) n_is asked) in
        (ask, request.0, asked, jump.0, request.1, request.2);
  }
