-- A builder's end follows a station of a run.
use Rattle.std.proofs.Common.{◌≡◌, ℕ, suc, ◌^◌, ◌<◌, ◌≤◌, ◌⊎◌, Bool, true, false, List, [], ◌∷◌, length, Option, Some, None, refl, ap, sym, ◌∙◌, arith, inl, inr, subst, ⊎_elim}
use Rattle.rasta_build.proofs.Prelude.{not, ◌&&◌, ◌||◌, ◌==◌, Side, Client, Parameters, SafetyPdu, Kind, Owed, Phase, Closed, TakeRow, Why, MakeRow, Made}
use Rattle.rasta_build.proofs.Prelude.{EndState, first_sn, is_owing, is_closed, is_client, is_start, is_active, is_retr_req, start_of, make_fault, has_ended}
use Rattle.rasta_build.proofs.Prelude.{after_make, effect_by, take_row, after_take, take_fault, is_in, is_ahead, no_test, FirstCopy, passed, Making, made_by}
use Rattle.rasta_build.proofs.Prelude.{after_row, take_leaves, Numbered, Taken, Valued, Built, first_sn_of, catch_up, explain, earliest_by}
use Rattle.std.specs.Prelude.{is_some, slice_get}
use Rattle.rasta_end.specs.State.{is_connected}
use Rattle.rasta_end.specs.MakeRule.{contents, phase_after}
use Rattle.rasta_end.specs.TakeRule.{is_valid}
use Rattle.rasta_check.proofs.Script.ScriptsOfRuns.{earlier}
use Rattle.rasta_check.proofs.Model.MakeRows.{new_made}
use Rattle.rasta_check.proofs.Model.TakeRows.{closed_row, not_closed}
use Rattle.rasta_check.proofs.Model.Invariant.{Held}
use Rattle.rasta_check.proofs.Model.InvariantAtMake.{nothing_made, push_some}
use Rattle.rasta_check.proofs.Model.InvariantOfRuns.{free}
use Rattle.rasta_build.proofs.Readiness.{IsReady}
use Rattle.rasta_build.proofs.Scans.{AreCopies}
use Rattle.rasta_build.proofs.Lags.{Pending, IsLag}
use Rattle.rasta_build.proofs.LagTakes.{lag_row}
use Rattle.rasta_build.proofs.Explanations.{IsOrigin, active_open, base_accepted, explains}
use Rattle.rasta_build.proofs.Comparisons.{is_same}

-- the builder's end lags behind a run's end, and was the same, but for its times, at the last make
pub record Live (p : Parameters) (start : Option ℕ) (side : Side) (quiet_sn : Option ℕ) (base0 : ℕ) (e : EndState) (taken : ℕ) (ms : List Made) (sent : List FirstCopy) (b : Built) : Type 0 where
  pub lag : IsLag p start side quiet_sn e taken ms sent b
  pub org : IsOrigin p start side quiet_sn e taken ms b
  pub low : base0 ≤ b.end.state.accepted

-- the run's end has ended, or the builder's end follows it; a client that has made nothing is closed, and has no deadline
pub record Follows (p : Parameters) (start : Option ℕ) (side : Side) (quiet_sn : Option ℕ) (base0 : ℕ) (e : EndState) (taken : ℕ) (ms : List Made) (sent : List FirstCopy) (b : Built) : Type 0 where
  pub of_side : e.side ≡ side
  pub unopened : e.side ≡ Client → e.made ≡ [] → (is_closed e.phase ≡ true) × (e.deadline ≡ None)
  pub stage : (has_ended e ≡ true) ⊎ Live p start side quiet_sn base0 e taken ms sent b

-- ---- units are few

number_few : (ms : List Made) → length (contents ms) ≤ length ms
number_few [] = omega arith
number_few (m ∷ ms) = (let rest = number_few ms in grind arith)

pub offered_few : (e : EndState) → Valued e → length e.made ≤ 1000001 → e.offered ≤ 1000001
offered_few e v l = (let c = v.contents.counted in let n = number_few e.made in omega (arith, c, n, l))

-- ---- phases

ended_if : (s : Side) (ph : Phase) (ms : List Made) → is_closed ph ≡ true → (s ≡ Client → ms ≡ [] → ⊥) → (is_closed ph && (not (is_client s) || is_some (slice_get ms 0))) ≡ true
ended_if s ph [] c h = grind arith
ended_if s ph (m ∷ ms) c h = grind arith

over_closed : (b c : Bool) → (b && c) ≡ true → b ≡ true
over_closed b c h = grind arith

client_is : (s : Side) → is_client s ≡ true → s ≡ Client
client_is s e = grind arith

no_start : (ph : Phase) → is_connected ph ≡ true → is_start ph ≡ true → ⊥
no_start ph r h = grind arith

-- a client that is in Start after a make was Closed
start_by_opening : (s : Side) (ph : Phase) (why : Why) (k : Kind) (os : List Owed) (row : MakeRow) → Making s ph why k os row → is_client s ≡ true → is_start (phase_after row ph) ≡ true → ph ≡ Closed
start_by_opening s ph why k os row how c h = grind (arith, no_start ph)

-- ---- a take

-- the deadline test at an earlier moment
owing_not : (os rest : List Owed) (o : Owed) → os ≡ o ∷ rest → os ≡ [] → ⊥
owing_not os rest o h k = cc

module _ (p : Parameters) (start : Option ℕ) (side : Side) (quiet_sn : Option ℕ) (base0 : ℕ) (e f : EndState) (t u : ℕ) (m : Made) (q : ℕ) (k : Taken e f t u m q) (moment : ℕ) (now : e.clock ≤ moment) (ok : take_fault p e moment ≡ None)
    (values_of : Valued e) (sent : List FirstCopy) (b : Built) (n : ℕ) (copies : AreCopies quiet_sn sent f.made base0 n) (based : base0 ≤ q) where
  e' : EndState
  e' = after_take p e m.pdu

  -- nothing is pending where something is taken by a row
  not_pending : (base : EndState) (mark : ℕ) → e.owed ≡ [] → Pending p base mark e t f.made → ⊥
  not_pending base mark h g = grind arith

  origin_kept : IsOrigin p start side quiet_sn e t f.made b → IsOrigin p start side quiet_sn (after_take p e m.pdu) (suc q) f.made b
  origin_kept o = (let l = take_leaves p e m.pdu in record {
    origin = o.origin;
    mark = o.mark;
    marked = (let z = o.marked in let y = k.above in omega (arith, z, y));
    itself = o.itself;
    made = o.made ∙ sym l.made;
    clock = o.clock ∙ sym l.clock;
    of_side = o.of_side ∙ sym l.side;
    young = o.young;
    few = o.few;
  })

  lag_same : take_row p e m.pdu ≡ None → IsLag p start side quiet_sn e t f.made sent b → IsLag p start side quiet_sn (after_take p e m.pdu) (suc q) f.made sent b
  lag_same is h =
      let same : e ≡ after_take p e m.pdu = ap (λ (r : Option TakeRow). effect_by p r e m.pdu) (sym is) in
      subst (λ (z : EndState). IsLag p start side quiet_sn z (suc q) f.made sent b) same (record {
        base = h.base;
        mark = h.mark;
        marked = (let z = h.marked in let y = k.above in omega (arith, z, y));
        low = h.low;
        caught = h.caught;
        calm = h.calm;
        still = h.still;
        stage = ⊎_elim (λ (s : e ≡ h.base). inl s)
            (λ (w : Pending p h.base h.mark e t f.made). inr (record { position = w.position; m = w.m; row = w.row; there = w.there; above = w.above; below = (let z = w.below in let y = k.above in omega (arith, z, y)); ahead = w.ahead; free = w.free; fault = w.fault; more = w.more; names = w.names; is = w.is; kind = w.kind; after = w.after }))
            h.stage;
      })

  lag_by : (row : TakeRow) → take_row p e m.pdu ≡ Some row → IsLag p start side quiet_sn e t f.made sent b → b.peer.quiet_sn ≡ quiet_sn
      → IsLag p start side quiet_sn (after_take p e m.pdu) (suc q) f.made sent b ⊎ ((is_closed (after_take p e m.pdu).phase ≡ true) × (is_active e.phase ≡ true))
  lag_by row is h quiet =
      let none = free p e moment ok (not_closed p e m.pdu row is) in
      let s : e ≡ h.base = ⊎_elim (λ (s : e ≡ h.base). s) (λ (w : Pending p h.base h.mark e t f.made). absurd (not_pending h.base h.mark none w)) h.stage in
      let s' : h.base ≡ e = sym s in
      lag_row p e f t u m q k start side quiet_sn sent b base0 n copies none (earlier p e e.clock moment now ok) values_of based quiet h.mark h.marked
      (subst (λ (z : EndState). b.end.state.accepted ≤ z.accepted) s' h.low)
      (subst (λ (z : EndState). (slot : ℕ) → (b1 : Built) × (catch_up sent slot z.accepted b ≡ Some b1) × IsReady p start side quiet_sn z h.mark f.made b1) s' h.caught)
      (subst (λ (z : EndState). b.end.state.accepted < z.accepted → is_retr_req z.phase ≡ false) s' h.calm)
      (subst (λ (z : EndState). is_owing b.end.state.owed ≡ true → z.accepted ≡ b.end.state.accepted) s' h.still)
      row is

  closed_same : is_closed e.phase ≡ true → after_take p e m.pdu ≡ e
  closed_same c = ap (λ (r : Option TakeRow). effect_by p r e m.pdu) (closed_row e.side e.phase m.pdu.kind (is_in e m.pdu) (is_ahead p e m.pdu) (is_valid e m.pdu) c)

  stage_kept : Follows p start side quiet_sn base0 e t f.made sent b → (o : Option TakeRow) → take_row p e m.pdu ≡ o → (has_ended (after_take p e m.pdu) ≡ true) ⊎ Live p start side quiet_sn base0 (after_take p e m.pdu) (suc q) f.made sent b
  stage_kept h o is = ⊎_elim
      (λ (over : has_ended e ≡ true). inl (ap has_ended (closed_same (over_closed (is_closed e.phase) _ over)) ∙ over))
      (λ (l : Live p start side quiet_sn base0 e t f.made sent b). by l o is)
      h.stage
    where
      by : Live p start side quiet_sn base0 e t f.made sent b → (o : Option TakeRow) → take_row p e m.pdu ≡ o → (has_ended (after_take p e m.pdu) ≡ true) ⊎ Live p start side quiet_sn base0 (after_take p e m.pdu) (suc q) f.made sent b
      by l None is = inr (record { lag = lag_same is l.lag; org = origin_kept l.org; low = l.low })
      by l (Some row) is = ⊎_elim
          (λ (g : IsLag p start side quiet_sn (after_take p e m.pdu) (suc q) f.made sent b). inr (record { lag = g; org = origin_kept l.org; low = l.low }))
          (λ (g : (is_closed (after_take p e m.pdu).phase ≡ true) × (is_active e.phase ≡ true)). inl (let v = take_leaves p e m.pdu in
          ended_if (after_take p e m.pdu).side (after_take p e m.pdu).phase (after_take p e m.pdu).made g.0
          (λ s z. (let w = h.unopened (sym v.side ∙ s) (sym v.made ∙ z) in let y = active_open e.phase g.1 in let x = w.0 in cc))))
          (lag_by row is l.lag (let or = l.org in or.itself.quiet))

  -- a take keeps it
  pub follows_take : Follows p start side quiet_sn base0 e t f.made sent b → Follows p start side quiet_sn base0 (after_take p e m.pdu) (suc q) f.made sent b
  follows_take h =
      let v = take_leaves p e m.pdu in
      record {
        of_side = v.side ∙ h.of_side;
        unopened = λ s z. (let w = h.unopened (sym v.side ∙ s) (sym v.made ∙ z) in let c = closed_same w.0 in (ap (λ (y : EndState). is_closed y.phase) c ∙ w.0, ap (λ (y : EndState). y.deadline) c ∙ w.1));
        stage = stage_kept h (take_row p e m.pdu) refl;
      }

-- ---- a make

module _ (p : Parameters) (start : Option ℕ) (side : Side) (quiet_sn : Option ℕ) (base0 : ℕ) (e : EndState) (t : ℕ) (ms : List Made) (k : ℕ) (x : SafetyPdu) (why : Why)
    (ok : make_fault p e x k why ≡ None) (bounded : k < 2 ^ 64) (waits : p.t_max ≤ 60000) (from : start ≡ (start_of p side).deadline) (low_start : earliest_by p start ≤ 2 ^ 63)
    (mine : Held e t ms) (theirs : Numbered ms) (few_theirs : length ms ≤ 1000001) (few : e.offered ≤ 1000001) (few_after : (after_make e x k why).offered ≤ 1000001)
    (sent : List FirstCopy) (b : Built) (n place : ℕ) (copies : AreCopies quiet_sn sent ms base0 n) (late : n ≤ place) (one : base0 ≤ 1)
    (firsts : 0 < length ms → first_sn_of quiet_sn sent ≡ Some (first_sn ms)) where
  accepted_same : (after_make e x k why).accepted ≡ e.accepted
  accepted_same = (let m = made_by p e x k why (passed p e x k why (no_test p e x k why ok)) in ap (λ (z : EndState). z.accepted) (sym (after_row e x k why m)))

  side_same : (after_make e x k why).side ≡ e.side
  side_same = (let m = made_by p e x k why (passed p e x k why (no_test p e x k why ok)) in ap (λ (z : EndState). z.side) (sym (after_row e x k why m)))

  grown : (after_make e x k why).made ≡ [] → ⊥
  grown h = (let m = made_by p e x k why (passed p e x k why (no_test p e x k why ok)) in push_some e.made (new_made m.row e x) (ap (λ (z : EndState). z.made) (after_row e x k why m) ∙ h))

  young_after : (e.side ≡ Client → e.made ≡ [] → (is_closed e.phase ≡ true) × (e.deadline ≡ None)) → is_client (after_make e x k why).side ≡ true → is_start (after_make e x k why).phase ≡ true → (after_make e x k why).deadline ≡ None
  young_after unopened c s =
      let ps = passed p e x k why (no_test p e x k why ok) in
      let m = made_by p e x k why ps in
      let c' : is_client e.side ≡ true = ap is_client (sym side_same) ∙ c in
      let s' : is_start (phase_after m.row e.phase) ≡ true = ap (λ (z : EndState). is_start z.phase) (after_row e x k why m) ∙ s in
      let closes = start_by_opening e.side e.phase why x.kind e.owed m.row m.how c' s' in
      let none = nothing_made e.side e.phase e.made closes ps.open_yet in
      let w = unopened (client_is e.side c') none in
      ap (λ (z : EndState). z.deadline) (sym (after_row e x k why m)) ∙ w.1

  live_after : (e.side ≡ Client → e.made ≡ [] → (is_closed e.phase ≡ true) × (e.deadline ≡ None)) → base0 ≤ e.accepted → (b' : Built) → IsReady p start side quiet_sn (after_make e x k why) t ms b'
      → Live p start side quiet_sn base0 (after_make e x k why) t ms sent b'
  live_after unopened least b' r =
      let a : b'.end.state.accepted ≡ (after_make e x k why).accepted = ap (λ (z : EndState). z.accepted) r.state in
      let s : ((after_make e x k why).accepted == b'.end.state.accepted) ≡ true = is_same (after_make e x k why).accepted b'.end.state.accepted (sym a) in
      let acc = accepted_same in
      record {
        lag = record {
          base = after_make e x k why;
          mark = t;
          marked = omega arith;
          low = omega (arith, a);
          caught = λ slot. (b', rw s refl, r);
          calm = λ l. absurd (omega (arith, l, a));
          still = λ o. sym a;
          stage = inl refl;
        };
        org = record { origin = after_make e x k why; mark = t; marked = omega arith; itself = r; made = refl; clock = refl; of_side = refl; young = young_after unopened; few = few_after };
        low = omega (arith, a, acc, least);
      }

  -- a make keeps it, after what explains it
  pub follows_make : Follows p start side quiet_sn base0 e t ms sent b → (b' : Built) × (explain sent place x b ≡ Some b') × Follows p start side quiet_sn base0 (after_make e x k why) t ms sent b'
  follows_make h = ⊎_elim
      (λ (over : has_ended e ≡ true). absurd (let ps = passed p e x k why (no_test p e x k why ok) in let z = ps.open_yet in cc))
      (λ (l : Live p start side quiet_sn base0 e t ms sent b). by l (explains p start side quiet_sn e t ms sent b base0 n place k x why ok bounded waits from low_start few_theirs theirs few (λ i g. mine.accepts.last i g) mine.opening.unmade copies late one l.low firsts h.of_side l.lag l.org))
      h.stage
    where
      by : Live p start side quiet_sn base0 e t ms sent b → (b' : Built) × (explain sent place x b ≡ Some b') × (IsReady p start side quiet_sn (after_make e x k why) t ms b' ⊎ (has_ended (after_make e x k why) ≡ true))
          → (b' : Built) × (explain sent place x b ≡ Some b') × Follows p start side quiet_sn base0 (after_make e x k why) t ms sent b'
      by l g =
          let ba = base_accepted p start side quiet_sn e t ms sent b base0 n place k x why ok bounded waits from low_start few_theirs theirs few (λ i z. mine.accepts.last i z) mine.opening.unmade copies late one l.low firsts h.of_side l.lag l.org in
          let least : base0 ≤ e.accepted = (let la = l.lag in let z = la.low in let y = l.low in omega (arith, z, y, ba)) in (
            g.0,
            g.1,
            record {
              of_side = side_same ∙ h.of_side;
              unopened = λ s z. absurd (grown z);
              stage = ⊎_elim (λ (r : IsReady p start side quiet_sn (after_make e x k why) t ms g.0). inr (live_after h.unopened least g.0 r)) (λ (o : has_ended (after_make e x k why) ≡ true). inl o) g.2;
            },
          )
