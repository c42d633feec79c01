-- A builder's end that differs from a run's end in its times alone, and that it can take what the run's end takes.
use Rattle.std.proofs.Common.{◌≡◌, ℕ, zero, suc, ◌+◌, ◌-◌, ◌<◌, ◌≤◌, Bool, true, false, List, [], ◌∷◌, ◌++◌, length, Option, Some, None, take, refl, ap, sym, ◌∙◌, arith, subst}
use Rattle.rasta_build.proofs.Prelude.{nat_lt, if◌then◌else◌, ◌&&◌, ◌==◌, min, nat_tests, Side, Parameters, SafetyPdu, RedundancyPdu, is_kind, Owed, OweRetransmissionResponse}
use Rattle.rasta_build.proofs.Prelude.{OweRetransmissionRequest, Phase, RetrReq, TakeRow, Opened, Answered, FirstHeartbeat, InSequence, ResentInSequence, Gap}
use Rattle.rasta_build.proofs.Prelude.{GapInRetransmission, Resumed, Requested, RequestedAhead, RequestedWhileAsking, Disconnected, Made, EndState, is_owing, is_flowing}
use Rattle.rasta_build.proofs.Prelude.{effect, take_row, take_fault, row_known, number, Built, taken_by, built_unless, take_step}
use Rattle.rasta_build.proofs.Prelude.{RetransmissionRequest}
use Rattle.rasta_pcap.specs.Fault.{reply_owed, past_deadline}
use Rattle.rasta_end.specs.declared.owed.Owed.TheVariants.{ConnectionResponse as OweConnectionResponse, FirstHeartbeat as OweFirstHeartbeat, Resend as OweResend}
use Rattle.rasta_end.specs.State.{kinds}
use Rattle.rasta_end.specs.Units.{units_conveyed}
use Rattle.rasta_end.specs.MakeRule.{first_that_holds}
use Rattle.rasta_end.specs.TakeRule.{resends, burst, position_confirmed}
use Rattle.rasta_build.specs.Built.{progress_of, trail_after}
use Rattle.rasta_build.specs.declared.script_builder.Progress.{Progress}
use Rattle.rasta_build.proofs.Times.{timed, deadline_by, effect_timed, IsNear, near_effect}
use Rattle.std.proofs.lemmas.List.{append-nil}
use Rattle.rasta_build.proofs.Comparisons.{not_lt}

-- ---- what is owed after the units

-- after each unit that is owed come the later ones, and `trail` things
abbrev pub IsTrail : ℕ → ℕ → List Owed → Type 0
IsTrail offered trail [] = Unit {0}
IsTrail offered trail (OweResend k ∷ os) = (k + suc (length os) ≡ offered + trail) × (k ≤ offered) × IsTrail offered trail os
IsTrail offered trail (OweConnectionResponse ∷ os) = IsTrail offered trail os
IsTrail offered trail (OweFirstHeartbeat ∷ os) = IsTrail offered trail os
IsTrail offered trail (OweRetransmissionResponse ∷ os) = IsTrail offered trail os
IsTrail offered trail (OweRetransmissionRequest ∷ os) = IsTrail offered trail os

trail_resends : (offered trail u d : ℕ) (tail : List Owed) → u + d ≡ offered → length tail ≡ trail → IsTrail offered trail tail → IsTrail offered trail (resends u d ++ tail)
trail_resends offered trail u zero tail e l h = h
trail_resends offered trail u (suc d) tail e l h = (let n = resends_long (suc u) d tail in omega (arith, n, l, e), omega (arith, e), trail_resends offered trail (suc u) d tail (omega (arith, e)) l h)
  where
    resends_long : (u d : ℕ) (tail : List Owed) → length (resends u d ++ tail) ≡ d + length tail
    resends_long u zero tail = omega arith
    resends_long u (suc d) tail = let h = resends_long (suc u) d tail in omega (arith, h)

trail_burst : (e : EndState) (c : ℕ) → units_conveyed e.asks (kinds e.made) c ≤ e.offered → IsTrail e.offered 0 (burst e c)
trail_burst e c l =
    let u = units_conveyed e.asks (kinds e.made) c in
    subst (λ (os : List Owed). IsTrail e.offered 0 os) (append-nil (resends u (e.offered - u))) (trail_resends e.offered 0 u (e.offered - u) [] (omega arith) refl tt)

trail_more : (e : EndState) (c : ℕ) → units_conveyed e.asks (kinds e.made) c ≤ e.offered → IsTrail e.offered 1 (burst e c ++ OweRetransmissionRequest ∷ [])
trail_more e c l =
    let u = units_conveyed e.asks (kinds e.made) c in
    trail_resends e.offered 1 u (e.offered - u) (OweRetransmissionRequest ∷ []) (omega arith) refl tt

-- no more than the units offered are conveyed through any position
abbrev pub ConveysNoMore : EndState → Type 0
ConveysNoMore e = (c : ℕ) → units_conveyed e.asks (kinds e.made) c ≤ e.offered

-- ---- a builder's end

-- it differs from a run's end in its times alone; the run's end may take from this position on, and its peer has made these PDUs
pub record IsReady (p : Parameters) (start : Option ℕ) (side : Side) (quiet_sn : Option ℕ) (e : EndState) (taken : ℕ) (ms : List Made) (b : Built) : Type 0 where
  pub clock : ℕ
  pub deadline : Option ℕ
  pub near : IsNear p start e clock deadline
  pub state : b.end.state ≡ timed clock deadline e
  pub params : b.end.params ≡ p
  pub now : b.clock ≡ clock
  pub of_side : b.side ≡ side
  pub quiet : b.peer.quiet_sn ≡ quiet_sn
  pub next : b.next_take ≤ taken
  pub trail : IsTrail e.offered b.trail e.owed
  pub asked : length e.asks ≤ number (is_kind RetransmissionRequest) (take b.next_take ms)

-- ---- what the run's end may take, the builder's end may take

fault_if : (k : Bool) (os : List Owed) (a b : Bool) → (a ≡ false → b ≡ false) → (if k then None else first_that_holds ((is_owing os, reply_owed) ∷ (a, past_deadline) ∷ [])) ≡ None
    → (if k then None else first_that_holds ((is_owing os, reply_owed) ∷ (b, past_deadline) ∷ [])) ≡ None
fault_if k os a b h g = grind arith

pub fault_near : (p : Parameters) (start : Option ℕ) (e : EndState) (clock : ℕ) (deadline : Option ℕ) → IsNear p start e clock deadline → take_fault p e e.clock ≡ None → take_fault p (timed clock deadline e) clock ≡ None
fault_near p start e clock deadline h g = grind arith

step_is : (f : Bool) (t : Option ℕ) (r : Option TakeRow) (row : Option TakeRow) (slot q : ℕ) (x : RedundancyPdu) (b : Built) → f ≡ false → t ≡ None → r ≡ row
    → (if f then None else built_unless t (taken_by r slot q x b)) ≡ Some (taken_by row slot q x b)
step_is f t r row slot q x b h k l = rw h (rw k (rw l refl))

-- the builder takes what the run's end takes, by the same row
pub ready_step : (p : Parameters) (start : Option ℕ) (side : Side) (quiet_sn : Option ℕ) (e : EndState) (taken : ℕ) (ms : List Made) (b : Built) → IsReady p start side quiet_sn e taken ms b
    → (slot q : ℕ) (x : RedundancyPdu) (row : Option TakeRow) → taken ≤ q → take_fault p e e.clock ≡ None → take_row p e x.safety ≡ row → take_step slot q x b ≡ Some (taken_by row slot q x b)
ready_step p start side quiet_sn e taken ms b r slot q x row l free is =
    let t : take_fault p (timed r.clock r.deadline e) r.clock ≡ None = fault_near p start e r.clock r.deadline r.near free in
    let t' : take_fault p b.end.state b.end.state.clock ≡ None = subst (λ (z : EndState). take_fault p z z.clock ≡ None) (sym r.state) t in
    let t'' : take_fault b.end.params b.end.state b.end.state.clock ≡ None = subst (λ (z : Parameters). take_fault z b.end.state b.end.state.clock ≡ None) (sym r.params) t' in
    let w : take_row p b.end.state x.safety ≡ row = ap (λ (z : EndState). take_row p z x.safety) r.state ∙ is in
    let w' : take_row b.end.params b.end.state x.safety ≡ row = ap (λ (z : Parameters). take_row z b.end.state x.safety) r.params ∙ w in
    step_is (nat_lt q b.next_take) (take_fault b.end.params b.end.state b.end.state.clock) (take_row b.end.params b.end.state x.safety) row slot q x b (not_lt q b.next_take (let z = r.next in omega (arith, z))) t'' w'

later_than : (a s : ℕ) → (suc (a + s) == a) ≡ false
later_than a s = grind (arith, nat_tests)

same_as : (a : ℕ) → (a == a) ≡ true
same_as a = grind (arith, nat_tests)

abbrev bit : Bool → ℕ
bit b = if b then 1 else 0

trail_set : (k f : Bool) (j : Bool) → k ≡ true → j ≡ true → f ≡ true → bit (k && (j && f)) ≡ 1
trail_set k f j a b c = rw a (rw b (rw c refl))

trail_unset : (k f : Bool) (j : Bool) → j ≡ false → bit (k && (j && f)) ≡ 0
trail_unset k f j h = grind arith

trail_waiting : (k j : Bool) (ph : Phase) → ph ≡ RetrReq → bit (k && (j && is_flowing ph)) ≡ 0
trail_waiting k j ph h = grind arith

-- the trail after the take by a row
pub trail_row : (p : Parameters) (e : EndState) (x : SafetyPdu) (row : TakeRow) → ConveysNoMore e → e.owed ≡ [] → take_row p e x ≡ Some row
    → IsTrail (effect p row e x).offered (trail_after (progress_of e) (progress_of (effect p row e x)) x) (effect p row e x).owed
trail_row p e x Opened few free is = tt
trail_row p e x Answered few free is = tt
trail_row p e x FirstHeartbeat few free is = rw free tt
trail_row p e x InSequence few free is = grind arith
trail_row p e x ResentInSequence few free is = grind arith
trail_row p e x Gap few free is = tt
trail_row p e x GapInRetransmission few free is = tt
trail_row p e x Resumed few free is = rw free tt
trail_row p e x Requested few free is =
    let z : trail_after (progress_of e) (progress_of (effect p Requested e x)) x ≡ 0 = trail_unset (is_kind RetransmissionRequest x.kind) (is_flowing e.phase) _ (later_than e.accepted _) in
    subst (λ n. IsTrail e.offered n (burst e (position_confirmed e x))) (sym z) (trail_burst e (position_confirmed e x) (few _))
trail_row p e x RequestedAhead few free is =
    let w = row_known p e x RequestedAhead is in
    let z : trail_after (progress_of e) (progress_of (effect p RequestedAhead e x)) x ≡ 1 = trail_set (is_kind RetransmissionRequest x.kind) (is_flowing e.phase) _ (ap (is_kind RetransmissionRequest) w.1) (same_as e.accepted) w.0 in
    subst (λ n. IsTrail e.offered n (burst e (position_confirmed e x) ++ OweRetransmissionRequest ∷ [])) (sym z) (trail_more e (position_confirmed e x) (few _))
trail_row p e x RequestedWhileAsking few free is =
    let w = row_known p e x RequestedWhileAsking is in
    let z : trail_after (progress_of e) (progress_of (effect p RequestedWhileAsking e x)) x ≡ 0 = trail_waiting (is_kind RetransmissionRequest x.kind) _ e.phase w.0 in
    subst (λ n. IsTrail e.offered n (burst e (position_confirmed e x))) (sym z) (trail_burst e (position_confirmed e x) (few _))
trail_row p e x Disconnected few free is = rw free tt

next_is : (q : ℕ) → q < 2147483648 → min (q + 1) 18446744073709551615 ≡ suc q
next_is q l = omega arith

-- and is ready after it
pub ready_effect : (p : Parameters) (start : Option ℕ) (side : Side) (quiet_sn : Option ℕ) (e : EndState) (taken : ℕ) (ms : List Made) (b : Built) → IsReady p start side quiet_sn e taken ms b
    → (slot q : ℕ) (x : RedundancyPdu) (row : TakeRow) → q < 2147483648 → e.owed ≡ [] → ConveysNoMore e → take_row p e x.safety ≡ Some row
    → length (effect p row e x.safety).asks ≤ number (is_kind RetransmissionRequest) (take (suc q) ms)
    → IsReady p start side quiet_sn (effect p row e x.safety) (suc q) ms (taken_by (Some row) slot q x b)
ready_effect p start side quiet_sn e taken ms b r slot q x row l free few is asked =
    let d : Option ℕ = deadline_by p row r.clock r.deadline x.safety in
    let s : effect b.end.params row b.end.state x.safety ≡ timed r.clock d (effect p row e x.safety) =
    ap (λ (z : Parameters). effect z row b.end.state x.safety) r.params ∙ (ap (λ (z : EndState). effect p row z x.safety) r.state ∙ effect_timed p row r.clock r.deadline e x.safety) in
    let pr : progress_of b.end.state ≡ progress_of e = ap progress_of r.state in
    let pr' : progress_of (effect b.end.params row b.end.state x.safety) ≡ progress_of (effect p row e x.safety) = ap progress_of s in
    let n : min (q + 1) 18446744073709551615 ≡ suc q = next_is q l in
    let tr : trail_after (progress_of b.end.state) (progress_of (effect b.end.params row b.end.state x.safety)) x.safety ≡ trail_after (progress_of e) (progress_of (effect p row e x.safety)) x.safety =
    ap (λ (z : Progress). trail_after z (progress_of (effect b.end.params row b.end.state x.safety)) x.safety) pr ∙ ap (λ (z : Progress). trail_after (progress_of e) z x.safety) pr' in
    record {
      clock = r.clock;
      deadline = d;
      near = near_effect p start row e x.safety r.clock r.deadline r.near;
      state = s;
      params = r.params;
      now = r.now;
      of_side = r.of_side;
      quiet = r.quiet;
      next = omega (arith, n);
      trail = subst (λ k. IsTrail (effect p row e x.safety).offered k (effect p row e x.safety).owed) (sym tr) (trail_row p e x.safety row few free is);
      asked = subst (λ k. length (effect p row e x.safety).asks ≤ number (is_kind RetransmissionRequest) (take k ms)) (sym n) asked;
    }
