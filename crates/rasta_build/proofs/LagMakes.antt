-- Facts about a make of an end that lags: what its type wants to be owed, the position that its CS names, and disconnection requests.
use Rattle.std.proofs.Common.{◌≡◌, ℕ, zero, suc, ◌+◌, ◌%◌, ◌^◌, ◌≤◌, ◌⊎◌, Bool, true, false, List, [], ◌∷◌, length, Option, Some, None, refl, ap, ◌∙◌, arith, inl, inr, subst, ⊎_elim}
use Rattle.rasta_build.proofs.Prelude.{nat_lt, not, ◌&&◌, ◌||◌, ◌==◌, slice_get_within, Side, Parameters, SafetyPdu, is_kind, Kind, RetransmissionRequest, RetransmissionResponse}
use Rattle.rasta_build.proofs.Prelude.{DisconnectionRequest, Owed, OweRetransmissionRequest, OweRetransmissionResponse, Phase, Closed, RetrReq, TakeRow, Gap}
use Rattle.rasta_build.proofs.Prelude.{GapInRetransmission, RequestedAhead, RequestedWhileAsking, Why, Bye, Expired, MakeRow, Made, EndState, ahead_by, first_sn, is_owing, is_closed}
use Rattle.rasta_build.proofs.Prelude.{is_active, is_flowing, wrapped, reason_of, content_of, make_fault, has_ended, row_of, is_judged, confirms_last, confirms_a_time, is_past}
use Rattle.rasta_build.proofs.Prelude.{is_early, is_expired, after_make, effect, take_row, no_test, FirstCopy, passed, Making, made_by, after_row, row_known}
use Rattle.rasta_build.proofs.Prelude.{Numbered, Built, copy_at, is_before, wants_trigger, catch_up}
use Rattle.rasta_end.specs.declared.make_row.MakeRow.TheVariants.{Leaves, TimesOut}
use Rattle.rasta_end.specs.MakeRule.{make_row, is_refused_row, is_owing_else, is_next_sn, differs, phase_after}
use Rattle.rasta_check.proofs.Model.MakeRows.{bye, expired, new_made}
use Rattle.rasta_check.proofs.Model.NamedPositions.{SnIs}
use Rattle.rasta_check.proofs.Model.InvariantAtMake.{over_after}
use Rattle.rasta_build.specs.Explaining.{accept_through}
use Rattle.rasta_build.proofs.Scans.{is_gap, is_request_ahead}
use Rattle.rasta_build.proofs.Makes.{none_of, reason_is, ReasonIs}

-- ---- the end of a connection

ending : (s : Side) (ph : Phase) (why : Why) (k : Kind) (os : List Owed) (row : MakeRow) → Making s ph why k os row → (is_expired why ≡ true) ⊎ (is_kind DisconnectionRequest k ≡ true) → phase_after row ph ≡ Closed
ending s ph why k os row (bye c) h = refl
ending s ph why k os row (expired c) h = refl
ending s ph why k os row _ h = ⊎_elim (λ (a : false ≡ true). absurd (cc)) (λ (a : false ≡ true). absurd (cc)) h

pub ended_by : (p : Parameters) (e : EndState) (x : SafetyPdu) (k : ℕ) (why : Why) → make_fault p e x k why ≡ None → (is_expired why ≡ true) ⊎ (is_kind DisconnectionRequest x.kind ≡ true) → has_ended (after_make e x k why) ≡ true
ended_by p e x k why ok h =
    let m = made_by p e x k why (passed p e x k why (no_test p e x k why ok)) in
    let closes = ending e.side e.phase why x.kind e.owed m.row m.how h in
    subst (λ (z : EndState). has_ended z ≡ true) (after_row e x k why m) (over_after e.side (phase_after m.row e.phase) e.made (new_made m.row e x) closes)

-- ---- what a make wants to be owed

pub or_true : (b : Bool) → (b || true) ≡ true
or_true b = grind arith

pub owes_wanted : (s : Side) (ph : Phase) (why : Why) (k : Kind) (os : List Owed) (row : MakeRow) → Making s ph why k os row → (is_owing os || not (wants_trigger k)) ≡ true
owes_wanted s ph why k os row h = grind arith

-- where a request is owed first, an end that is connected makes it, or ends
pub asks_first : (s : Side) (ph : Phase) (why : Why) (k : Kind) (os rest : List Owed) (row : MakeRow) → Making s ph why k os row → os ≡ OweRetransmissionRequest ∷ rest → is_closed ph ≡ false → (k ≡ RetransmissionRequest) ⊎ (is_kind DisconnectionRequest k ≡ true)
asks_first s ph why k os rest row h g l = grind arith

pub answers_first : (s : Side) (ph : Phase) (why : Why) (k : Kind) (os rest : List Owed) (row : MakeRow) → Making s ph why k os row → os ≡ OweRetransmissionResponse ∷ rest → is_closed ph ≡ false → (k ≡ RetransmissionResponse) ⊎ (is_kind DisconnectionRequest k ≡ true)
answers_first s ph why k os rest row h g l = grind arith

-- ---- what CS names

pub sn_near : (ms : List Made) (i sn : ℕ) → Numbered ms → length ms ≤ 1000001 → SnIs ms i sn → ahead_by sn (first_sn ms) ≡ i
sn_near [] i sn h b s = absurd (let e = s.there in cc)
sn_near (m ∷ ms) zero sn h b s = grind arith
sn_near (m ∷ ms) (suc i) sn h b s =
    let w = slice_get_within (m ∷ ms) (suc i) s.m s.there in
    let a : s.m.pdu.sn ≡ (m.pdu.sn + suc i) % 2 ^ 32 = h i s.m s.there in
    let c = s.same in
    omega (arith, a, c, w, b)

-- accepting through a position is catching up with it
pub through : (sent : List FirstCopy) (place i : ℕ) (b b1 : Built) → catch_up sent place (suc i) b ≡ Some b1 → b.end.state.accepted ≤ suc i
    → (b.end.state.accepted ≤ i → is_before (copy_at b.peer.quiet_sn sent i) place ≡ true) → accept_through sent place b (Some i) ≡ Some b1
through sent place i b b1 h g k = grind arith

-- ---- a disconnection request

pub disc_plain : (k : Kind) → is_kind DisconnectionRequest k ≡ true → wants_trigger k ≡ false
disc_plain k h = grind arith

pub disc_is : (k : Kind) → is_kind DisconnectionRequest k ≡ true → k ≡ DisconnectionRequest
disc_is k h = grind arith

leaving_why : (s : Side) (ph : Phase) (why : Why) (k : Kind) (os : List Owed) (row : MakeRow) → Making s ph why k os row → is_kind DisconnectionRequest k ≡ true → (why ≡ Bye) ⊎ (why ≡ Expired)
leaving_why s ph why k os row h g = grind arith

-- the row of one
abbrev pub IsLeaving : Side → Phase → ℕ → Why → Kind → Type 0
IsLeaving s ph reason why k = (row : MakeRow) × (make_row s ph reason why k ≡ Some row) × ((row ≡ Leaves) ⊎ (row ≡ TimesOut))

leaving_row : (s : Side) (ph : Phase) (reason : ℕ) (why : Why) (k : Kind) → k ≡ DisconnectionRequest → is_active ph ≡ true → ReasonIs why reason → (why ≡ Bye) ⊎ (why ≡ Expired) → IsLeaving s ph reason why k
leaving_row s ph reason why k h a r w = ⊎_elim
    (λ (b : why ≡ Bye). (let r' : (reason == 4) ≡ false = subst (λ (y : Why). ReasonIs y reason) b r in (Leaves, rw h (rw b (rw a (rw r' refl))), inl refl)))
    (λ (b : why ≡ Expired). (let r' : (reason == 4) ≡ true = subst (λ (y : Why). ReasonIs y reason) b r in (TimesOut, rw h (rw b (rw a (rw r' refl))), inr refl)))
    w

leaving_tests : (row : MakeRow) (o : Option MakeRow) (os : List Owed) (ms : List Made) (content : List ℕ) → o ≡ Some row → (row ≡ Leaves) ⊎ (row ≡ TimesOut)
    → (is_refused_row o os ≡ false) × (is_owing_else o os ≡ false) × (differs ms o content ≡ false)
leaving_tests row o os ms content h g = grind arith

-- an end may make it which has made the same as one that makes it, and whose times and confirmed numbers allow it
pub leave_fault : (p : Parameters) (e g : EndState) (x : SafetyPdu) (k : ℕ) (why : Why) → make_fault p e x k why ≡ None → is_kind DisconnectionRequest x.kind ≡ true → has_ended g ≡ false → is_active g.phase ≡ true
    → g.made ≡ e.made → g.clock ≡ e.clock → (not (is_expired why) && is_past p g.deadline k) ≡ false → (is_expired why && is_early p g.deadline k) ≡ false
    → (is_judged g x.kind && not (confirms_last g x.cs)) ≡ false → (is_judged g x.kind && not (confirms_a_time g x.cts)) ≡ false → make_fault p g x k why ≡ None
leave_fault p e g x k why ok disc over active made clock past early cs cts =
    let t = passed p e x k why (no_test p e x k why ok) in
    let m = made_by p e x k why (passed p e x k why (no_test p e x k why ok)) in
    let w = leaving_why e.side e.phase why x.kind e.owed m.row m.how disc in
    let r = reason_is e.side e.phase (reason_of x.body) why x.kind e.owed t.row in
    let l = leaving_row g.side g.phase (reason_of x.body) why x.kind (disc_is x.kind disc) active r w in
    let q = leaving_tests l.0 (row_of g x why) g.owed g.made (content_of x.body) l.1 l.2 in
    let sn : not (is_next_sn g.made x.sn) ≡ false = ap (λ (ms : List Made). not (is_next_sn ms x.sn)) made ∙ t.sn in
    let rises : nat_lt k g.clock ≡ false = ap (λ c. nat_lt k c) clock ∙ t.rises in
    none_of (has_ended g) (is_refused_row (row_of g x why) g.owed) (is_owing_else (row_of g x why) g.owed) (not (is_next_sn g.made x.sn)) (not (x.ts == wrapped k)) (nat_lt k g.clock)
    (not (is_expired why) && is_past p g.deadline k) (is_expired why && is_early p g.deadline k) (is_judged g x.kind && not (confirms_last g x.cs)) (is_judged g x.kind && not (confirms_a_time g x.cts)) (differs g.made (row_of g x why) (content_of x.body))
    over q.0 q.1 sn t.stamp rises past early cs cts q.2

-- ---- what something ahead leaves alone

pub record LeftBy (base e : EndState) : Type 0 where
  pub accepted : e.accepted ≡ base.accepted
  pub last_sn : e.last_sn ≡ base.last_sn
  pub made : base.made ≡ e.made
  pub clock : base.clock ≡ e.clock
  pub offered : e.offered ≡ base.offered
  pub deadline : base.deadline ≡ e.deadline
  pub times : (cts : ℕ) → confirms_a_time base cts ≡ confirms_a_time e cts
  pub phase : e.phase ≡ RetrReq
  pub active : is_active base.phase ≡ true
  pub owes : ((rest : List Owed) × (e.owed ≡ OweRetransmissionRequest ∷ rest)) ⊎ ((rest : List Owed) × (e.owed ≡ OweRetransmissionResponse ∷ rest))

flowing_active : (ph : Phase) → is_flowing ph ≡ true → is_active ph ≡ true
flowing_active ph h = grind arith

pub left_by : (p : Parameters) (base : EndState) (x : SafetyPdu) (row : TakeRow) → take_row p base x ≡ Some row → (is_gap row ≡ true) ⊎ (is_request_ahead row ≡ true) → LeftBy base (effect p row base x)
left_by p base x Gap is h = (let w = row_known p base x Gap is in record { accepted = refl; last_sn = refl; made = refl; clock = refl; offered = refl; deadline = refl; times = λ c. refl; phase = refl; active = ap is_active w.0; owes = inl ([], refl) })
left_by p base x GapInRetransmission is h = (let w = row_known p base x GapInRetransmission is in record { accepted = refl; last_sn = refl; made = refl; clock = refl; offered = refl; deadline = refl; times = λ c. refl; phase = refl; active = ap is_active w.0; owes = inl ([], refl) })
left_by p base x RequestedAhead is h = (let w = row_known p base x RequestedAhead is in record { accepted = refl; last_sn = refl; made = refl; clock = refl; offered = refl; deadline = refl; times = λ c. refl; phase = refl; active = flowing_active base.phase w.0; owes = inr (_, refl) })
left_by p base x RequestedWhileAsking is h = (let w = row_known p base x RequestedWhileAsking is in record { accepted = refl; last_sn = refl; made = refl; clock = refl; offered = refl; deadline = refl; times = λ c. refl; phase = w.0; active = ap is_active w.0; owes = inr (_, refl) })
left_by p base x _ is h = ⊎_elim (λ (a : false ≡ true). absurd (cc)) (λ (a : false ≡ true). absurd (cc)) h
