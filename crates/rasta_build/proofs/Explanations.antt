-- Where an end of a run makes a PDU, the builder explains it, and both ends are again the same but for their times.
use Rattle.std.proofs.Common.{◌≡◌, ℕ, zero, suc, ◌+◌, ◌^◌, ◌<◌, ◌≤◌, ◌⊎◌, Bool, true, false, List, [], ◌∷◌, length, Option, Some, None, take, refl, ap, sym, ◌∙◌, arith, inl, inr, subst, ⊎_elim}
use Rattle.rasta_build.proofs.Prelude.{not, ◌&&◌, ◌||◌, ◌==◌, option_map, nat_tests, slice_get_within, Side, Client, Parameters, SafetyPdu, is_kind, Kind, RetransmissionRequest}
use Rattle.rasta_build.proofs.Prelude.{RetransmissionResponse, DisconnectionRequest, Owed, Phase, Closed, RetrReq, TakeRow, RequestedAhead}
use Rattle.rasta_build.proofs.Prelude.{RequestedWhileAsking, OweRetransmissionRequest, OweRetransmissionResponse, Why, MakeRow, Made, EndState, ahead_by, first_sn, is_owing, is_closed}
use Rattle.rasta_build.proofs.Prelude.{is_client, is_start, is_active, is_retr_req, start_of, make_fault, has_ended, is_judged, confirms_last, confirms_a_time, is_past, is_early}
use Rattle.rasta_build.proofs.Prelude.{is_expired, after_make, effect, take_row, is_ahead, no_test, FirstCopy, passed, Making, made_by, number, Numbered, Built}
use Rattle.rasta_build.proofs.Prelude.{copy_at, is_before, first_sn_of, wants_trigger, catch_up, made_at, explain, earliest_by}
use Rattle.rasta_pdu.specs.declared.kind.Kind.TheVariants.{ConnectionRequest}
use Rattle.rasta_check.proofs.Model.MakeRows.{cs_is, Passed, MadeBy}
use Rattle.rasta_check.proofs.Model.NamedPositions.{SnIs}
use Rattle.rasta_check.proofs.Model.InvariantAtMake.{nothing_made}
use Rattle.rasta_build.specs.Choices.{position_named, has_to_take, is_unanswered}
use Rattle.rasta_build.specs.Explaining.{then_built, accept_through, take_trigger, take_step_by, make_step}
use Rattle.rasta_build.proofs.Readiness.{IsReady}
use Rattle.rasta_build.proofs.Scans.{AreCopies, is_gap, is_request_ahead, gap_found, request_found}
use Rattle.rasta_build.proofs.Lags.{Pending, IsLag, caught_itself}
use Rattle.rasta_build.proofs.Makes.{makes_by, ready_make}
use Rattle.rasta_build.proofs.LagMakes.{ended_by, owes_wanted, or_true, asks_first, answers_first, sn_near, through, disc_plain, leave_fault, LeftBy, left_by}
use Rattle.rasta_build.proofs.Comparisons.{lt_is, was_same}

-- the builder's end at the last make of the run's end
pub record IsOrigin (p : Parameters) (start : Option ℕ) (side : Side) (quiet_sn : Option ℕ) (e : EndState) (taken : ℕ) (ms : List Made) (b : Built) : Type 0 where
  pub origin : EndState
  pub mark : ℕ
  pub marked : mark ≤ taken
  pub itself : IsReady p start side quiet_sn origin mark ms b
  pub made : origin.made ≡ e.made
  pub clock : origin.clock ≡ e.clock
  pub of_side : origin.side ≡ e.side
  pub young : is_client origin.side ≡ true → is_start origin.phase ≡ true → origin.deadline ≡ None
  pub few : origin.offered ≤ 1000001

-- ---- when something has to be taken

tells : (o c d u : Bool) → (not o && (not c && not (d && u))) ≡ true → (o ≡ false) × (c ≡ false) × ((d ≡ true) → (u ≡ true) → ⊥)
tells o c d u h = grind arith

tells_not : (o c d u : Bool) → (not o && (not c && not (d && u))) ≡ false → (o ≡ true) ⊎ (((o ≡ false) × (c ≡ true)) ⊎ ((d ≡ true) × (u ≡ true)))
tells_not o c d u h = grind arith

judges : (c d a s ph : Bool) → c ≡ false → ((d ≡ true) → (a ≡ true) → (s ≡ true) → (ph ≡ true) → ⊥) → (not c && not (d && (a && (s && ph)))) ≡ true
judges c d a s ph h n = grind arith

three : (s ph a : Bool) → (s && (ph && a)) ≡ true → (s ≡ true) × (ph ≡ true) × (a ≡ true)
three s ph a h = grind arith

unjudged : (c d a s ph v : Bool) → d ≡ true → a ≡ true → s ≡ true → ph ≡ true → ((not c && not (d && (a && (s && ph)))) && v) ≡ false
unjudged c d a s ph v w x y z = grind arith

and_false : (b : Bool) → (b && false) ≡ false
and_false b = grind arith

start_open : (ph : Phase) → is_start ph ≡ true → (is_closed ph ≡ false) × (is_active ph ≡ true) × (is_retr_req ph ≡ false)
start_open ph h = grind arith

pub active_open : (ph : Phase) → is_active ph ≡ true → is_closed ph ≡ false
active_open ph h = grind arith

over_not : (b c : Bool) → b ≡ false → (b && c) ≡ false
over_not b c h = rw h refl

opens_only : (s : Side) (ph : Phase) (why : Why) (k : Kind) (os : List Owed) (row : MakeRow) → Making s ph why k os row → is_kind ConnectionRequest k ≡ true → (s ≡ Client) × (ph ≡ Closed)
opens_only s ph why k os row h g = grind arith

pub gap_owes : (p : Parameters) (base : EndState) (y : SafetyPdu) (row : TakeRow) → is_gap row ≡ true → (rest : List Owed) × ((effect p row base y).owed ≡ OweRetransmissionRequest ∷ rest)
gap_owes p base y row h = grind arith

pub ahead_owes : (p : Parameters) (base : EndState) (y : SafetyPdu) (row : TakeRow) → is_request_ahead row ≡ true → (rest : List Owed) × ((effect p row base y).owed ≡ OweRetransmissionResponse ∷ rest)
ahead_owes p base y RequestedAhead h = (_, refl)
ahead_owes p base y RequestedWhileAsking h = (_, refl)
ahead_owes p base y _ h = absurd (cc)

gap_ahead : (p : Parameters) (base : EndState) (y : SafetyPdu) (row : TakeRow) → (is_gap row ≡ true) ⊎ (is_request_ahead row ≡ true) → take_row p base y ≡ Some row → is_ahead p base y ≡ true
gap_ahead p base y row h g = grind arith

one_less : (n : ℕ) → 0 < n → (i : ℕ) × (n ≡ suc i)
one_less zero h = absurd (omega arith)
one_less (suc i) h = (i, refl)

second_off : (j v : Bool) → j ≡ true → (j && v) ≡ false → v ≡ false
second_off j v h g = grind arith

off_by : (j v w : Bool) → v ≡ w → w ≡ false → (j && v) ≡ false
off_by j v w h g = grind arith

waits_open : (ph : Phase) → ph ≡ RetrReq → is_closed ph ≡ false
waits_open ph h = rw h refl

module _ (p : Parameters) (start : Option ℕ) (side : Side) (quiet_sn : Option ℕ) (e : EndState) (taken : ℕ) (ms : List Made) (sent : List FirstCopy) (b : Built) (base0 n place k : ℕ) (x : SafetyPdu) (why : Why)
    (ok : make_fault p e x k why ≡ None) (bounded : k < 2 ^ 64) (waits : p.t_max ≤ 60000) (from : start ≡ (start_of p side).deadline) (low_start : earliest_by p start ≤ 2 ^ 63)
    (few_ms : length ms ≤ 1000001) (numbered : Numbered ms) (few : e.offered ≤ 1000001)
    (last : (i : ℕ) → e.accepted ≡ suc i → SnIs ms i e.last_sn) (unmade : e.side ≡ Client → e.made ≡ [] → (e.accepted ≡ 0) × (e.owed ≡ []))
    (copies : AreCopies quiet_sn sent ms base0 n) (late : n ≤ place) (one : base0 ≤ 1) (low_base : base0 ≤ b.end.state.accepted)
    (firsts : 0 < length ms → first_sn_of quiet_sn sent ≡ Some (first_sn ms)) (same_side : e.side ≡ side)
    (lag : IsLag p start side quiet_sn e taken ms sent b) (org : IsOrigin p start side quiet_sn e taken ms b) where
  after : EndState
  after = after_make e x k why

  abbrev pub Explains : Type 0
  Explains = (b' : Built) × (explain sent place x b ≡ Some b') × (IsReady p start side quiet_sn (after_make e x k why) taken ms b' ⊎ (has_ended (after_make e x k why) ≡ true))

  ready_later : (mark : ℕ) (g : EndState) (b2 : Built) → mark ≤ taken → IsReady p start side quiet_sn g mark ms b2 → IsReady p start side quiet_sn g taken ms b2
  ready_later mark g b2 l r = record { clock = r.clock; deadline = r.deadline; near = r.near; state = r.state; params = r.params; now = r.now; of_side = r.of_side; quiet = r.quiet; next = (let z = r.next in omega (arith, z, l)); trail = r.trail; asked = r.asked }

  -- from a builder's end that is ready
  from_ready : (b2 : Built) (mark : ℕ) → mark ≤ taken → IsReady p start side quiet_sn e mark ms b2 → take_step_by (has_to_take b.side b.end.state x.kind) sent place x b ≡ Some b2 → Explains
  from_ready b2 mark l r h =
      let r' = ready_later mark e b2 l r in
      let m = makes_by p start side quiet_sn e taken ms b2 r' place k x why ok bounded waits from low_start few in
      let again = ready_make p start side quiet_sn e taken ms b2 r' place k x why ok bounded waits from low_start few in (
        made_at place x why m.0 b2,
        ap (λ (o : Option Built). then_built o (make_step place x)) h ∙ m.1,
        ⊎_elim
            (λ (c : m.0 ≡ r'.clock + ahead_by x.ts r'.clock). inl (subst (λ c'. IsReady p start side quiet_sn (after_make e x k why) taken ms (made_at place x why c' b2)) (sym c) again))
            (λ (c : is_expired why ≡ true). inr (ended_by p e x k why ok (inl c)))
            m.2,
      )

  -- from one that is ready for another end, which may also end the connection
  from_leaving : (b2 : Built) (g : EndState) (mark : ℕ) → IsReady p start side quiet_sn g mark ms b2 → make_fault p g x k why ≡ None → g.offered ≤ 1000001 → is_kind DisconnectionRequest x.kind ≡ true
      → take_step_by (has_to_take b.side b.end.state x.kind) sent place x b ≡ Some b2 → Explains
  from_leaving b2 g mark r ok' few' d h =
      let m = makes_by p start side quiet_sn g mark ms b2 r place k x why ok' bounded waits from low_start few' in
      (made_at place x why m.0 b2, ap (λ (o : Option Built). then_built o (make_step place x)) h ∙ m.1, inr (ended_by p e x k why ok (inr d)))

  all : Passed p e x k why
  all = passed p e x k why (no_test p e x k why ok)

  by : MadeBy e x why
  by = made_by p e x k why (passed p e x k why (no_test p e x k why ok))

  b_side : b.side ≡ side
  b_side = (let o = org in o.itself.of_side)

  -- where the run's end has accepted no more than the builder's, this one has caught up
  itself : lag.base.accepted ≡ b.end.state.accepted → IsReady p start side quiet_sn lag.base lag.mark ms b
  itself h = (let c = lag.caught 0 in subst (λ (z : Built). IsReady p start side quiet_sn lag.base lag.mark ms z) (sym (caught_itself sent 0 lag.base.accepted b c.0 h c.1)) c.2)

  ahead_left : (q : Pending p lag.base lag.mark e taken ms) → LeftBy lag.base (effect p q.row lag.base q.m.pdu)
  ahead_left q = left_by p lag.base q.m.pdu q.row q.is (⊎_elim (λ (g : is_gap q.row ≡ true). inl g) (λ g. inr g.0) q.kind)

  left_is : Pending p lag.base lag.mark e taken ms → LeftBy lag.base e
  left_is q = (let z = q.after in subst (λ (g : EndState). LeftBy lag.base g) (sym z) (ahead_left q))

  pub base_accepted : lag.base.accepted ≡ e.accepted
  base_accepted = ⊎_elim (λ (s : e ≡ lag.base). ap (λ (z : EndState). z.accepted) (sym s)) (λ (q : Pending p lag.base lag.mark e taken ms). (let l = left_is q in sym l.accepted)) lag.stage

  -- ---- where nothing has to be taken
  module _ (stays : has_to_take b.side b.end.state x.kind ≡ false) where
    stayed : take_step_by (has_to_take b.side b.end.state x.kind) sent place x b ≡ Some b
    stayed = ap (λ (c : Bool). take_step_by c sent place x b) stays

    owing : is_owing b.end.state.owed ≡ true → Explains
    owing o =
        let r = itself (lag.still o) in
        let os : is_owing lag.base.owed ≡ true = ap (λ (z : EndState). is_owing z.owed) (sym r.state) ∙ o in
        ⊎_elim
        (λ (s : e ≡ lag.base). from_ready b lag.mark lag.marked (subst (λ (g : EndState). IsReady p start side quiet_sn g lag.mark ms b) (sym s) r) stayed)
        (λ (q : Pending p lag.base lag.mark e taken ms). absurd (let z : is_owing lag.base.owed ≡ false = ap is_owing q.free in cc))
        lag.stage

    opens : is_kind ConnectionRequest x.kind ≡ true → Explains
    opens c =
        let m = by in
        let t = all in
        let w = opens_only e.side e.phase why x.kind e.owed m.row m.how c in
        let none : e.made ≡ [] = nothing_made e.side e.phase e.made w.1 t.open_yet in
        let u = unmade w.0 none in
        let a = base_accepted in
        let r = itself (let l = lag.low in omega (arith, a, u.0, l)) in
        ⊎_elim
        (λ (s : e ≡ lag.base). from_ready b lag.mark lag.marked (subst (λ (g : EndState). IsReady p start side quiet_sn g lag.mark ms b) (sym s) r) stayed)
        (λ (q : Pending p lag.base lag.mark e taken ms). absurd (let l = left_is q in let z : Closed ≡ RetrReq = sym w.1 ∙ l.phase in cc))
        lag.stage

    unanswered : is_kind DisconnectionRequest x.kind ≡ true → is_unanswered b.side b.end.state ≡ true → Explains
    unanswered d u =
        let o = org in
        let t = all in
        let r = o.itself in
        let w = three (is_client b.side) (is_start b.end.state.phase) (b.end.state.accepted == 0) u in
        let ph : is_start o.origin.phase ≡ true = ap (λ (z : EndState). is_start z.phase) (sym r.state) ∙ w.1 in
        let ac : (o.origin.accepted == 0) ≡ true = ap (λ (z : EndState). z.accepted == 0) (sym r.state) ∙ w.2 in
        let sd : is_client o.origin.side ≡ true = ap is_client (o.of_side ∙ (same_side ∙ sym b_side)) ∙ w.0 in
        let op = start_open o.origin.phase ph in
        let dl = o.young sd ph in
        let past : (not (is_expired why) && is_past p o.origin.deadline k) ≡ false = ap (λ (z : Option ℕ). not (is_expired why) && is_past p z k) dl ∙ and_false (not (is_expired why)) in
        let early : (is_expired why && is_early p o.origin.deadline k) ≡ false = ap (λ (z : Option ℕ). is_expired why && is_early p z k) dl ∙ and_false (is_expired why) in
        let f = leave_fault p e o.origin x k why ok d (over_not (is_closed o.origin.phase) _ op.0) op.1 o.made o.clock past early
        (unjudged (is_kind ConnectionRequest x.kind) (is_kind DisconnectionRequest x.kind) (o.origin.accepted == 0) (is_client o.origin.side) (is_start o.origin.phase) _ d ac sd ph)
        (unjudged (is_kind ConnectionRequest x.kind) (is_kind DisconnectionRequest x.kind) (o.origin.accepted == 0) (is_client o.origin.side) (is_start o.origin.phase) _ d ac sd ph) in
        from_leaving b o.origin o.mark r f o.few d stayed

    explains_staying : Explains
    explains_staying = ⊎_elim (λ (o : is_owing b.end.state.owed ≡ true). owing o) (λ z. ⊎_elim (λ (c : (is_owing b.end.state.owed ≡ false) × (is_kind ConnectionRequest x.kind ≡ true)). opens c.1) (λ (c : (is_kind DisconnectionRequest x.kind ≡ true) × (is_unanswered b.side b.end.state ≡ true)). unanswered c.0 c.1) z)
        (tells_not (is_owing b.end.state.owed) (is_kind ConnectionRequest x.kind) (is_kind DisconnectionRequest x.kind) (is_unanswered b.side b.end.state) stays)

  -- ---- where something may have to be taken
  module _ (takes : has_to_take b.side b.end.state x.kind ≡ true) where
    answered : (e.accepted == 0) ≡ true → is_client e.side ≡ true → is_start e.phase ≡ true → is_unanswered b.side b.end.state ≡ true
    answered a s ph =
        let z = was_same e.accepted 0 a in
        let ac = base_accepted in
        let r = itself (let l = lag.low in omega (arith, ac, z, l)) in
        let at : b.end.state.accepted ≡ 0 = (let l = lag.low in omega (arith, ac, z, l)) in
        let sd : is_client b.side ≡ true = ap is_client (b_side ∙ sym same_side) ∙ s in
        ⊎_elim
        (λ (h : e ≡ lag.base). (let on = ap (λ (g : EndState). is_start g.phase) r.state ∙ (ap (λ (g : EndState). is_start g.phase) (sym h) ∙ ph) in grind (arith, nat_tests)))
        (λ (q : Pending p lag.base lag.mark e taken ms). absurd (let l = left_is q in let w = start_open e.phase ph in let v : is_retr_req e.phase ≡ true = ap is_retr_req l.phase in let u = w.2 in cc))
        lag.stage

    judged : is_judged e x.kind ≡ true
    judged =
        let w = tells (is_owing b.end.state.owed) (is_kind ConnectionRequest x.kind) (is_kind DisconnectionRequest x.kind) (is_unanswered b.side b.end.state) takes in
        judges (is_kind ConnectionRequest x.kind) (is_kind DisconnectionRequest x.kind) (e.accepted == 0) (is_client e.side) (is_start e.phase) w.1 (λ d a s ph. w.2 d (answered a s ph))

    -- its CS names the position that was accepted last
    cs_names : (i : ℕ) × (e.accepted ≡ suc i) × SnIs ms i x.cs
    cs_names =
        let pass = passed p e x k why (no_test p e x k why ok) in
        let c = cs_is e x.kind x.cs judged pass.cs in
        let i = one_less e.accepted c.0 in
        (i.0, i.1, subst (λ sn. SnIs ms i.0 sn) (sym c.1) (last i.0 i.1))

    caught_up : (b1 : Built) × (accept_through sent place b (position_named b.peer.quiet_sn sent x.cs) ≡ Some b1) × IsReady p start side quiet_sn lag.base lag.mark ms b1
    caught_up =
        let o = org in
        let quiet = o.itself.quiet in
        let c = cs_names in
        let s : SnIs ms c.0 x.cs = c.2 in
        let there = slice_get_within ms c.0 s.m s.there in
        let named : position_named b.peer.quiet_sn sent x.cs ≡ Some c.0 = ap (λ (q : Option ℕ). position_named q sent x.cs) quiet ∙ (ap (λ (q : Option ℕ). option_map (ahead_by x.cs) q) (firsts (omega (arith, there))) ∙ ap Some (sn_near ms c.0 x.cs numbered few_ms s)) in
        let u = lag.caught place in
        let ba = base_accepted in
        let to : lag.base.accepted ≡ suc c.0 = ba ∙ c.1 in
        let h : catch_up sent place (suc c.0) b ≡ Some u.0 = subst (λ t. catch_up sent place t b ≡ Some u.0) to u.1 in
        let front : b.end.state.accepted ≤ c.0 → is_before (copy_at b.peer.quiet_sn sent c.0) place ≡ true = λ l. (
        let f = copies c.0 s.m s.there (omega (arith, l, low_base)) in
        let g : copy_at b.peer.quiet_sn sent c.0 ≡ Some f.0 = ap (λ (q : Option ℕ). copy_at q sent c.0) quiet ∙ f.1 in
        rw g (lt_is f.0.place place (let z = f.3 in omega (arith, z, late)))) in
        (u.0, ap (λ (q : Option ℕ). accept_through sent place b q) named ∙ through sent place c.0 b u.0 h (let l = lag.low in omega (arith, l, to)) front, u.2)

    took : (b1 b2 : Built) → accept_through sent place b (position_named b.peer.quiet_sn sent x.cs) ≡ Some b1 → take_trigger sent place x.kind b1 ≡ Some b2 → take_step_by (has_to_take b.side b.end.state x.kind) sent place x b ≡ Some b2
    took b1 b2 h g = ap (λ (c : Bool). take_step_by c sent place x b) takes ∙ (ap (λ (o : Option Built). then_built o (take_trigger sent place x.kind)) h ∙ g)

    untried : (b1 : Built) → (is_owing b1.end.state.owed || not (wants_trigger x.kind)) ≡ true → take_trigger sent place x.kind b1 ≡ Some b1
    untried b1 h = rw h refl

    untried_leaving : (b1 : Built) → is_kind DisconnectionRequest x.kind ≡ true → take_trigger sent place x.kind b1 ≡ Some b1
    untried_leaving b1 d = untried b1 (let w = disc_plain x.kind d in rw w (or_true (is_owing b1.end.state.owed)))

    -- nothing is pending
    settled : e ≡ lag.base → Explains
    settled s =
        let c = caught_up in
        let m = by in
        let r : IsReady p start side quiet_sn e lag.mark ms c.0 = subst (λ (g : EndState). IsReady p start side quiet_sn g lag.mark ms c.0) (sym s) c.2 in
        let w : (is_owing c.0.end.state.owed || not (wants_trigger x.kind)) ≡ true = ap (λ (g : EndState). is_owing g.owed || not (wants_trigger x.kind)) r.state ∙ owes_wanted e.side e.phase why x.kind e.owed m.row m.how in
        from_ready c.0 lag.mark lag.marked r (took c.0 c.0 c.1 (untried c.0 w))

    module _ (q : Pending p lag.base lag.mark e taken ms) where
      -- what is pending needn't be taken by an end that says goodbye
      leaves : is_kind DisconnectionRequest x.kind ≡ true → Explains
      leaves d =
          let c = caught_up in
          let l = left_is q in
          let t = all in
          let j = judged in
          let a = l.accepted in
          let sn = l.last_sn in
          let same_last : confirms_last lag.base x.cs ≡ confirms_last e x.cs = (λ i. not (a' i == 0) && (x.cs == sn' i)) in
          let cs : (is_judged lag.base x.kind && not (confirms_last lag.base x.cs)) ≡ false = off_by (is_judged lag.base x.kind) (not (confirms_last lag.base x.cs)) (not (confirms_last e x.cs)) (ap (λ (v : Bool). not v) same_last) (second_off (is_judged e x.kind) (not (confirms_last e x.cs)) j t.cs) in
          let cts : (is_judged lag.base x.kind && not (confirms_a_time lag.base x.cts)) ≡ false = off_by (is_judged lag.base x.kind) (not (confirms_a_time lag.base x.cts)) (not (confirms_a_time e x.cts)) (ap (λ (v : Bool). not v) (l.times x.cts)) (second_off (is_judged e x.kind) (not (confirms_a_time e x.cts)) j t.cts) in
          let past : (not (is_expired why) && is_past p lag.base.deadline k) ≡ false = ap (λ (z : Option ℕ). not (is_expired why) && is_past p z k) l.deadline ∙ t.in_time in
          let early : (is_expired why && is_early p lag.base.deadline k) ≡ false = ap (λ (z : Option ℕ). is_expired why && is_early p z k) l.deadline ∙ t.late in
          let f = leave_fault p e lag.base x k why ok d (over_not (is_closed lag.base.phase) _ (active_open lag.base.phase l.active)) l.active l.made l.clock past early cs cts in
          from_leaving c.0 lag.base lag.mark c.2 f (let o = l.offered in omega (arith, o, few)) d (took c.0 c.0 c.1 (untried_leaving c.0 d))
        where
          a' : lag.base.accepted ≡ e.accepted
          a' = base_accepted

          sn' : lag.base.last_sn ≡ e.last_sn
          sn' = (let l = left_is q in sym l.last_sn)

      found : (b1 b2 : Built) → accept_through sent place b (position_named b.peer.quiet_sn sent x.cs) ≡ Some b1 → take_trigger sent place x.kind b1 ≡ Some b2 → IsReady p start side quiet_sn (effect p q.row lag.base q.m.pdu) (suc q.position) ms b2 → Explains
      found b1 b2 h g r =
          from_ready b2 (suc q.position) (let z = q.below in omega (arith, z)) (let z = q.after in subst (λ (y : EndState). IsReady p start side quiet_sn y (suc q.position) ms b2) (sym z) r) (took b1 b2 h g)

      gap_pending : is_gap q.row ≡ true → Explains
      gap_pending g =
          let c = caught_up in
          let l = left_is q in
          let m = by in
          let os = gap_owes p lag.base q.m.pdu q.row g in
          let af = q.after in
          let os' : e.owed ≡ OweRetransmissionRequest ∷ os.0 = ap (λ (z : EndState). z.owed) af ∙ os.1 in
          ⊎_elim
          (λ (kd : x.kind ≡ RetransmissionRequest).
          (let t = gap_found p start side quiet_sn lag.base lag.mark ms c.0 c.2 sent base0 n place one copies late few_ms q.free q.fault q.more q.position q.m q.row q.there q.above q.ahead q.is q.names g (gap_ahead p lag.base q.m.pdu q.row (inl g) q.is) in
          found c.0 t.0 c.1 (ap (λ (y : Kind). take_trigger sent place y c.0) kd ∙ t.1) t.2))
          (λ (d : is_kind DisconnectionRequest x.kind ≡ true). leaves d)
          (asks_first e.side e.phase why x.kind e.owed os.0 m.row m.how os' (waits_open e.phase l.phase))

      request_pending : (is_request_ahead q.row ≡ true) × (number (is_kind RetransmissionRequest) (take q.position ms) ≡ length lag.base.asks) × (length (effect p q.row lag.base q.m.pdu).asks ≤ number (is_kind RetransmissionRequest) (take (suc q.position) ms)) → Explains
      request_pending g =
          let c = caught_up in
          let l = left_is q in
          let m = by in
          let os = ahead_owes p lag.base q.m.pdu q.row g.0 in
          let af = q.after in
          let os' : e.owed ≡ OweRetransmissionResponse ∷ os.0 = ap (λ (z : EndState). z.owed) af ∙ os.1 in
          ⊎_elim
          (λ (kd : x.kind ≡ RetransmissionResponse).
          (let t = request_found p start side quiet_sn lag.base lag.mark ms c.0 c.2 sent base0 n place one copies late few_ms q.free q.fault q.more q.position q.m q.row q.there q.above q.ahead q.is q.names g.1 g.0 g.2 (gap_ahead p lag.base q.m.pdu q.row (inr g.0) q.is) in
          found c.0 t.0 c.1 (ap (λ (y : Kind). take_trigger sent place y c.0) kd ∙ t.1) t.2))
          (λ (d : is_kind DisconnectionRequest x.kind ≡ true). leaves d)
          (answers_first e.side e.phase why x.kind e.owed os.0 m.row m.how os' (waits_open e.phase l.phase))

    explains_taking : Explains
    explains_taking = ⊎_elim (λ (s : e ≡ lag.base). settled s)
        (λ (q : Pending p lag.base lag.mark e taken ms). ⊎_elim (λ (g : is_gap q.row ≡ true). gap_pending q g) (λ g. request_pending q g) q.kind) lag.stage

  -- the builder explains the make, and is ready after it, or the connection is over
  pub explains : Explains
  explains = by_need (has_to_take b.side b.end.state x.kind) refl
    where
      by_need : (c : Bool) → has_to_take b.side b.end.state x.kind ≡ c → Explains
      by_need true h = explains_taking h
      by_need false h = explains_staying h
