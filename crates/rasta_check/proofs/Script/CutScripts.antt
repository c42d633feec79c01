-- Scripts cut after their last make: a run in which no more is handed up than the two lists show.
use Rattle.std.proofs.Common.{◌≡◌, ◌⊎◌, ℕ, zero, suc, ◌<◌, ◌≤◌, false, List, [], ◌∷◌, length, Some, slice_get, refl, ap, sym, ◌∙◌, arith, inl, inr, ⊎_elim}
use Rattle.rasta_check.proofs.Prelude.{Side, Client, Server, Packet, Kind, Parameters, SafetyPdu, Entry, Why, EndState, Makes, start_of, FirstCopy, CrossRecorded, World, Reaches}
use Rattle.rasta_check.proofs.Prelude.{other_side, station_of, end_of, ScriptCursor, Advances, Leads, at_start, Follows, ConnectionRequest, is_kind}
use Rattle.rasta_check.proofs.Prelude.{units_at, after_make_by, NamesOne, pdus_made, pdus_of, all_made, units_along, units_shown, units_taken, position_with}
use Rattle.rasta_check.proofs.Prelude.{surely_taken, units_handed, units_listed, map_at}
use Rattle.rasta_check.proofs.Capture.FaultlessLists.{IsSent}
use Rattle.rasta_check.proofs.Model.MakeRows.{passed, cs_is, made_by, after_row}
use Rattle.rasta_check.proofs.Model.Invariant.{Held}
use Rattle.rasta_check.proofs.Model.ConveyedUnits.{values}
use Rattle.rasta_check.proofs.Model.HandedUnits.{Handed, worth, hands_up_units, judged_after}
use Rattle.rasta_check.proofs.Model.Requests.{named_position}
use Rattle.rasta_check.proofs.Theorem.ShowingPdus.{fold_member}
use Rattle.rasta_check.proofs.Theorem.SentRuns.{known}
use Rattle.rasta_check.proofs.Theorem.ListedUnits.{exactly_listed}
use Rattle.rasta_check.proofs.Run.Simulation.{simulated}
use Rattle.rasta_check.proofs.Model.Steps.{start_is}

-- ---- cut scripts

-- the last thing that was done is a make
pub record JustMade (p : Parameters) (own : List FirstCopy) (v : EndState) : Type 0 where
  pub e : EndState
  pub i : ℕ
  pub c : FirstCopy
  pub clock : ℕ
  pub why : Why
  pub there : slice_get own i ≡ Some c
  pub makes : Makes p e c.pdu.safety clock why v

module _ (p : Parameters) (n : ℕ) (own peer : List FirstCopy) where
  done : (u m : ScriptCursor) (x : Entry) → Advances p n own peer u x m → (u.made_count ≡ m.made_count) ⊎ JustMade p own m.state
  done u m x h1 = grind arith

  -- a script without the takes after its last make
  abbrev Cut : ScriptCursor → ScriptCursor → Type 0
  Cut u v = (cs : List Entry) × (w : ScriptCursor) × Leads p n own peer u cs w × (w.made_count ≡ v.made_count) × ((w ≡ u) ⊎ JustMade p own w.state)

  cut : (u v : ScriptCursor) (es : List Entry) → Leads p n own peer u es v → Cut u v
  cut u v [] f = ([], u, refl, ap (λ (z : ScriptCursor). z.made_count) f, inl refl)
  cut u v (x ∷ es) f = by (done u f.0 x f.1) (cut f.0 v es f.2)
    where
      by : (u.made_count ≡ f.0.made_count) ⊎ JustMade p own f.0.state → Cut f.0 v → Cut u v
      by (inl e) (cs, w, l, m, inl q) = ([], u, refl, e ∙ (ap (λ (z : ScriptCursor). z.made_count) (sym q) ∙ m), inl refl)
      by (inr j) (cs, w, l, m, inl q) = (x ∷ cs, w, (f.0, f.1, l), m, inr (rw q j))
      by _ (cs, w, l, m, inr j) = (x ∷ cs, w, (f.0, f.1, l), m, inr j)

  -- a script that fits, cut: it leads to an end that is as at the start or has just made something
  cut_fits : (s : Side) (es : List Entry) (e : EndState) → Follows p s n own peer es e
      → (cs : List Entry) × (e' : EndState) × Follows p s n own peer cs e' × ((e' ≡ start_of p s) ⊎ JustMade p own e')
  cut_fits s es e f =
      let r = cut (at_start (start_of p s)) f.0 es f.1 in
      (r.0, r.1.state, (r.1, r.2, r.3 ∙ f.2, refl), ⊎_elim (λ (q : r.1 ≡ at_start (start_of p s)). inl (ap (λ (z : ScriptCursor). z.state) q)) (λ (j : JustMade p own r.1.state). inr j) r.4)

-- ---- an end that has just made something has handed up no more than that shows

-- e takes the units of f
module _ (p : Parameters) (s : Side) (e f : EndState) (t u : ℕ) (own : List FirstCopy) (M : List SafetyPdu) (h : Held e t f.made) (once : NamesOne f e) (hd : Handed e f)
    (told_f : pdus_made f.made ≡ M) (along : units_along M (pdus_of own) ≡ values f) where
  -- the end after a make, by its row
  no_opening : (m : JustMade p own e) → (k : Kind) → m.c.pdu.safety.kind ≡ k → 0 < e.accepted → is_kind ConnectionRequest k ≡ false
  no_opening m k q l =
      let x = m.c.pdu.safety in
      let b = made_by p m.e x m.clock m.why (passed p m.e x m.clock m.why m.makes.0) in
      grind (arith, h.opening.starting)

  shows_by : (m : JustMade p own e) → (a : ℕ) → e.accepted ≡ a → length e.handed ≤ units_taken M (pdus_of own)
  shows_by m zero a = (let z = hd.count ∙ ap (worth (values f)) a in omega arith)
  shows_by m (suc i) a =
      let x = m.c.pdu.safety in
      let ok = passed p m.e x m.clock m.why m.makes.0 in
      let b = made_by p m.e x m.clock m.why ok in
      let after : e ≡ after_make_by (Some b.row) m.e x m.clock = m.makes.1 ∙ sym (after_row m.e x m.clock m.why b) in
      let acc : m.e.accepted ≡ suc i = sym (ap (λ (z : EndState). z.accepted) after) ∙ a in
      let k : is_kind ConnectionRequest x.kind ≡ false = no_opening m x.kind refl (omega arith) in
      let cs : x.cs ≡ e.last_sn = (cs_is m.e x.kind x.cs (judged_after m.e x.kind i acc k) ok.cs).1 ∙ sym (ap (λ (z : EndState). z.last_sn) after) in
      let l = h.accepts.last i a in
      let at : position_with M x.cs ≡ Some i = rw (sym told_f) (named_position f.made i x.cs once (record { m = l.m; there = l.there; same = l.same ∙ sym cs })) in
      let v : units_shown M (pdus_of own) x ≡ units_at (values f) (Some i) = rw (k, at, along) refl in
      let big = fold_member (units_shown M (pdus_of own)) 0 (pdus_of own) m.i x (map_at (λ (c : FirstCopy). c.pdu.safety) own m.i m.c m.there) in
      omega (arith, big, v, hd.count ∙ ap (worth (values f)) a)

  pub no_more : (e ≡ start_of p s) ⊎ JustMade p own e → length e.handed ≤ units_taken M (pdus_of own)
  no_more h1 = grind (arith, start_is, shows_by)

-- ---- the run

-- of a side's list, its peer has handed up exactly what is listed
exactly : (p : Parameters) (ws : List World) (w : World) (x : Side) (own peer : List FirstCopy) → Reaches p ws w → IsSent p w.crossed x own → IsSent p w.crossed (other_side x) peer
    → length own ≤ 1000000 → length peer ≤ 1000000 → (end_of w (other_side x) ≡ start_of p (other_side x)) ⊎ JustMade p peer (end_of w (other_side x))
    → units_handed (end_of w (other_side x)) ≡ units_listed (surely_taken p x own peer)
exactly p ws w x own peer r sent theirs few few_theirs last =
    let k = known p ws w x own peer r sent theirs (omega (arith, few)) (omega (arith, few_theirs)) in
    let e = end_of w (other_side x) in
    let f = end_of w x in
    exactly_listed p x e f own peer k.sends.same (hands_up_units e f k.all.mine.values k.all.theirs.handed) k.taken
    (no_more p (other_side x) e f (station_of w (other_side x)).mark (station_of w x).mark peer (all_made p x own) k.all.theirs.held k.once k.all.theirs.handed k.sends.same k.along last)

pub sharp : (p : Parameters) (packets : List Packet) (c s : List FirstCopy) (cs ss : List Entry) (a b : EndState)
    → CrossRecorded p packets → IsSent p packets Client c → IsSent p packets Server s → length c ≤ 1000000 → length s ≤ 1000000
    → Follows p Client (length packets) c s cs a → Follows p Server (length packets) s c ss b
    → (ws : List World) × (w : World) × Reaches p ws w × (w.crossed ≡ packets)
    × (units_handed w.server.state ≡ units_listed (surely_taken p Client c s))
    × (units_handed w.client.state ≡ units_listed (surely_taken p Server s c))
sharp p packets c s cs ss a b recorded hc hs lc ls fc fs =
    let kc = cut_fits p (length packets) c s Client cs a fc in
    let ks = cut_fits p (length packets) s c Server ss b fs in
    let r = simulated p packets c s kc.0 ks.0 kc.1 ks.1 recorded hc hs kc.2 ks.2 in
    let w = r.1 in
    let sc : IsSent p w.crossed Client c = rw r.3 hc in
    let sv : IsSent p w.crossed Server s = rw r.3 hs in
    (r.0, w, r.2, r.3, exactly p r.0 w Client c s r.2 sc sv lc ls (rw r.5 ks.3), exactly p r.0 w Server s c r.2 sv sc ls lc (rw r.4 kc.3))
