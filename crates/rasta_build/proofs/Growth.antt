-- What holds of a builder's end stays where its peer makes one PDU more.
use Rattle.std.proofs.Common.{◌≡◌, ℕ, zero, suc, ◌≤◌, Bool, true, List, [], ◌∷◌, ◌++◌, length, Option, take, ap, sym, ◌∙◌, arith, inl, inr, subst, ⊎_elim}
use Rattle.rasta_build.proofs.Prelude.{slice_get_within, Side, Parameters, Kind, Made, EndState, effect, FirstCopy, get_front, number, Built, is_kind, RetransmissionRequest}
use Rattle.std.proofs.lemmas.List.{take-append-le}
use Rattle.rasta_check.proofs.Lists.{get_front_within}
use Rattle.rasta_check.proofs.Model.Counts.{tally}
use Rattle.rasta_build.proofs.Readiness.{IsReady}
use Rattle.rasta_build.proofs.Scans.{is_gap, is_request_ahead}
use Rattle.rasta_build.proofs.Lags.{Pending, IsLag}
use Rattle.rasta_build.proofs.Explanations.{IsOrigin}

tally_most : (b : Bool) (m n : ℕ) → m ≤ n → tally b m ≤ tally b n
tally_most b m n h = grind arith

number_front : (f : Kind → Bool) (k : ℕ) (ms ys : List Made) → number f (take k ms) ≤ number f (take k (ms ++ ys))
number_front f zero ms ys = omega arith
number_front f (suc k) [] ys = omega arith
number_front f (suc k) (m ∷ ms) ys = tally_most (f m.pdu.kind) _ _ (number_front f k ms ys)

module _ (p : Parameters) (start : Option ℕ) (side : Side) (quiet_sn : Option ℕ) (ms ys : List Made) where
  pub ready_grows : (e : EndState) (taken : ℕ) (b : Built) → IsReady p start side quiet_sn e taken ms b → IsReady p start side quiet_sn e taken (ms ++ ys) b
  ready_grows e taken b r = record {
    clock = r.clock;
    deadline = r.deadline;
    near = r.near;
    state = r.state;
    params = r.params;
    now = r.now;
    of_side = r.of_side;
    quiet = r.quiet;
    next = r.next;
    trail = r.trail;
    asked = (let z = number_front (is_kind RetransmissionRequest) b.next_take ms ys in let y = r.asked in omega (arith, z, y));
  }

  pending_grows : (base : EndState) (mark : ℕ) (e : EndState) (taken : ℕ) → Pending p base mark e taken ms → Pending p base mark e taken (ms ++ ys)
  pending_grows base mark e taken q =
      let l = slice_get_within ms q.position q.m q.there in
      let t : take q.position (ms ++ ys) ≡ take q.position ms = take-append-le q.position ms ys (omega (arith, l)) in
      let t' : take (suc q.position) (ms ++ ys) ≡ take (suc q.position) ms = take-append-le (suc q.position) ms ys (omega (arith, l)) in
      record {
        position = q.position;
        m = q.m;
        row = q.row;
        there = get_front ms ys q.position q.m q.there;
        above = q.above;
        below = q.below;
        ahead = q.ahead;
        free = q.free;
        fault = q.fault;
        more = q.more;
        names = λ j n g a k. q.names j n (sym (get_front_within ms ys j (omega (arith, k, l))) ∙ g) a k;
        is = q.is;
        kind = ⊎_elim (λ (g : is_gap q.row ≡ true). inl g)
            (λ (g : (is_request_ahead q.row ≡ true) × (number (is_kind RetransmissionRequest) (take q.position ms) ≡ length base.asks) × (length (effect p q.row base q.m.pdu).asks ≤ number (is_kind RetransmissionRequest) (take (suc q.position) ms))).
            inr (g.0, ap (number (is_kind RetransmissionRequest)) t ∙ g.1, subst (λ (l : List Made). length (effect p q.row base q.m.pdu).asks ≤ number (is_kind RetransmissionRequest) l) (sym t') g.2)) q.kind;
        after = q.after;
      }

  pub lag_grows : (e : EndState) (taken : ℕ) (sent : List FirstCopy) (b : Built) → IsLag p start side quiet_sn e taken ms sent b → IsLag p start side quiet_sn e taken (ms ++ ys) sent b
  lag_grows e taken sent b h = record {
    base = h.base;
    mark = h.mark;
    marked = h.marked;
    low = h.low;
    caught = λ slot. (let c = h.caught slot in (c.0, c.1, ready_grows h.base h.mark c.0 c.2));
    calm = h.calm;
    still = h.still;
    stage = ⊎_elim (λ (s : e ≡ h.base). inl s) (λ (q : Pending p h.base h.mark e taken ms). inr (pending_grows h.base h.mark e taken q)) h.stage;
  }

  pub origin_grows : (e : EndState) (taken : ℕ) (b : Built) → IsOrigin p start side quiet_sn e taken ms b → IsOrigin p start side quiet_sn e taken (ms ++ ys) b
  origin_grows e taken b o = record { origin = o.origin; mark = o.mark; marked = o.marked; itself = ready_grows o.origin o.mark b o.itself; made = o.made; clock = o.clock; of_side = o.of_side; young = o.young; few = o.few }
