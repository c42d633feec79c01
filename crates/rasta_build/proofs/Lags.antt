-- What an end of a run has taken since its last make, and that the builder's end can catch up with it.
use Rattle.std.proofs.Common.{◌≡◌, ℕ, zero, suc, ◌+◌, ◌-◌, ◌<◌, ◌≤◌, ◌⊎◌, Bool, true, false, List, [], length, Option, Some, None, slice_get, take, refl, ap, sym, ◌∙◌, arith, inl, subst, ⊎_elim}
use Rattle.rasta_build.proofs.Prelude.{if◌then◌else◌, ◌==◌, slice_get_within, Side, Parameters, SafetyPdu, is_kind, TakeRow, Made, EndState, is_owing, is_retr_req, effect}
use Rattle.rasta_build.proofs.Prelude.{take_row, take_fault, FirstCopy, number, Built, copy_at, taken_by, take_step, accept_from, catch_up, RetransmissionRequest}
use Rattle.rasta_build.proofs.Prelude.{RetransmissionResponse}
use Rattle.rasta_build.specs.Choices.{is_response}
use Rattle.rasta_build.specs.Explaining.{accept_there, accept_step, last_response, first_acceptable, accept_range}
use Rattle.rasta_build.proofs.Readiness.{IsReady, ConveysNoMore, ready_step, ready_effect}
use Rattle.rasta_build.proofs.Scans.{AreCopies, Names, is_gap, is_request_ahead}
use Rattle.rasta_build.proofs.Comparisons.{is_same, is_other}

-- ---- catching up by one position more

-- acceptance up to before a position, by whether nothing is to be accepted, and whether the end waits for a response
abbrev pub catch_by : Bool → Bool → List FirstCopy → ℕ → ℕ → Built → Option Built
catch_by d rr sent slot bound b =
    if d then Some b else accept_range sent slot bound b (first_acceptable rr b.peer.quiet_sn sent b.end.state.accepted (bound - b.end.state.accepted))

flowing_from : (d : Bool) (sent : List FirstCopy) (slot t : ℕ) (b b1 : Built) → (t == b.end.state.accepted) ≡ d → catch_by d false sent slot t b ≡ Some b1
    → accept_from sent slot b.end.state.accepted (t - b.end.state.accepted) b ≡ Some b1
flowing_from d sent slot t b b1 h g = grind arith

-- an end that doesn't wait for a response
pub catch_flowing : (sent : List FirstCopy) (slot t : ℕ) (b b1 : Built) → is_retr_req b.end.state.phase ≡ false → b.end.state.accepted ≤ t → catch_up sent slot t b ≡ Some b1
    → catch_up sent slot (suc t) b ≡ accept_step sent slot t b1
catch_flowing sent slot t b b1 ph l h =
    let acc : ℕ = b.end.state.accepted in
    let h' : catch_by (t == acc) false sent slot t b ≡ Some b1 = rw ph at h in
    let from = flowing_from (t == acc) sent slot t b b1 refl h' in
    let n : (suc t == acc) ≡ false = is_other (suc t) acc (λ k. omega arith) in
    let m : suc t - acc ≡ suc (t - acc) = omega arith in
    let q : acc + (t - acc) ≡ t = omega arith in
    rw ph (rw n (rw m (rw from (rw q refl))))

last_within : (quiet_sn : Option ℕ) (sent : List FirstCopy) (next n f : ℕ) → last_response quiet_sn sent next n ≡ Some f → f < next + n
last_within quiet_sn sent next zero f h = absurd (cc)
last_within quiet_sn sent next (suc n) f h = by (is_response (copy_at quiet_sn sent (next + n))) h (λ k. last_within quiet_sn sent next n f k)
  where
    by : (c : Bool) → (if c then Some (next + n) else last_response quiet_sn sent next n) ≡ Some f → (last_response quiet_sn sent next n ≡ Some f → f < next + n) → f < next + suc n
    by true h r = (let z : next + n ≡ f = cc in omega arith)
    by false h r = (let z = r h in omega arith)

waiting_from : (sent : List FirstCopy) (slot t acc n : ℕ) (b b1 : Built) (o : Option ℕ) → acc + n ≡ t → last_response b.peer.quiet_sn sent acc n ≡ o → accept_range sent slot t b o ≡ Some b1
    → accept_range sent slot (suc t) b o ≡ accept_step sent slot t b1
waiting_from sent slot t acc n b b1 None l h k = absurd (cc)
waiting_from sent slot t acc n b b1 (Some f) l h k =
    let w = last_within b.peer.quiet_sn sent acc n f h in
    let m : suc t - f ≡ suc (t - f) = omega arith in
    let q : f + (t - f) ≡ t = omega arith in
    rw m (rw k (rw q refl))

-- an end that waited for a response and took it
pub catch_resumed : (sent : List FirstCopy) (slot t : ℕ) (b b1 : Built) → is_retr_req b.end.state.phase ≡ true → b.end.state.accepted < t → is_response (copy_at b.peer.quiet_sn sent t) ≡ false
    → catch_up sent slot t b ≡ Some b1 → catch_up sent slot (suc t) b ≡ accept_step sent slot t b1
catch_resumed sent slot t b b1 ph l plain h =
    let acc : ℕ = b.end.state.accepted in
    let o : (t == acc) ≡ false = is_other t acc (λ k. omega arith) in
    let h' : accept_range sent slot t b (last_response b.peer.quiet_sn sent acc (t - acc)) ≡ Some b1 = rw (ph, o) at h in
    let n : (suc t == acc) ≡ false = is_other (suc t) acc (λ k. omega arith) in
    let m : suc t - acc ≡ suc (t - acc) = omega arith in
    let q : acc + (t - acc) ≡ t = omega arith in
    let same : last_response b.peer.quiet_sn sent acc (suc t - acc) ≡ last_response b.peer.quiet_sn sent acc (t - acc) = rw m (rw q (rw plain refl)) in
    rw ph (rw n (rw same (waiting_from sent slot t acc (t - acc) b b1 (last_response b.peer.quiet_sn sent acc (t - acc)) q refl h')))

-- an end that waits for a response takes it
pub catch_waiting : (sent : List FirstCopy) (slot q : ℕ) (b : Built) → is_retr_req b.end.state.phase ≡ true → b.end.state.accepted ≤ q → is_response (copy_at b.peer.quiet_sn sent q) ≡ true
    → catch_up sent slot (suc q) b ≡ accept_step sent slot q b
catch_waiting sent slot q b ph l response =
    let acc : ℕ = b.end.state.accepted in
    let n : (suc q == acc) ≡ false = is_other (suc q) acc (λ k. omega arith) in
    let m : suc q - acc ≡ suc (q - acc) = omega arith in
    let s : acc + (q - acc) ≡ q = omega arith in
    let first : last_response b.peer.quiet_sn sent acc (suc q - acc) ≡ Some q = rw m (rw s (rw response refl)) in
    let one : suc q - q ≡ 1 = omega arith in
    let nil : q + 0 ≡ q = omega arith in
    rw ph (rw n (rw first (rw one (rw nil refl))))

pub caught_itself : (sent : List FirstCopy) (slot t : ℕ) (b b1 : Built) → t ≡ b.end.state.accepted → catch_up sent slot t b ≡ Some b1 → b ≡ b1
caught_itself sent slot t b b1 h g = grind arith

-- ---- the lag

-- something ahead made something owed
pub record Pending (p : Parameters) (base : EndState) (mark : ℕ) (e : EndState) (taken : ℕ) (ms : List Made) : Type 0 where
  pub position : ℕ
  pub m : Made
  pub row : TakeRow
  pub there : slice_get ms position ≡ Some m
  pub above : mark ≤ position
  pub below : position < taken
  pub ahead : suc base.accepted ≤ position
  pub free : base.owed ≡ []
  pub fault : take_fault p base base.clock ≡ None
  pub more : ConveysNoMore base
  pub names : Names base ms position
  pub is : take_row p base m.pdu ≡ Some row
  pub kind : (is_gap row ≡ true) ⊎ ((is_request_ahead row ≡ true) × (number (is_kind RetransmissionRequest) (take position ms) ≡ length base.asks)
      × (length (effect p row base m.pdu).asks ≤ number (is_kind RetransmissionRequest) (take (suc position) ms)))
  pub after : e ≡ effect p row base m.pdu

-- the builder stands at the last make of the run's end, and can catch up with a base, which the run's end is, or was before something ahead
-- made something owed
pub record IsLag (p : Parameters) (start : Option ℕ) (side : Side) (quiet_sn : Option ℕ) (e : EndState) (taken : ℕ) (ms : List Made) (sent : List FirstCopy) (b : Built) : Type 0 where
  pub base : EndState
  pub mark : ℕ
  pub marked : mark ≤ taken
  pub low : b.end.state.accepted ≤ base.accepted
  pub caught : (slot : ℕ) → (b1 : Built) × (catch_up sent slot base.accepted b ≡ Some b1) × IsReady p start side quiet_sn base mark ms b1
  pub calm : b.end.state.accepted < base.accepted → is_retr_req base.phase ≡ false
  pub still : is_owing b.end.state.owed ≡ true → base.accepted ≡ b.end.state.accepted
  pub stage : (e ≡ base) ⊎ Pending p base mark e taken ms

-- ---- a take by a row

-- what holds of a take that accepts, at position q
pub record Accepting (p : Parameters) (e : EndState) (x : SafetyPdu) (row : TakeRow) (q : ℕ) : Type 0 where
  pub accepted : (effect p row e x).accepted ≡ suc q
  pub calm : is_retr_req (effect p row e x).phase ≡ false
  pub how : ((q ≡ e.accepted) × (is_kind RetransmissionResponse x.kind ≡ false) × (is_retr_req e.phase ≡ false))
      ⊎ ((e.accepted ≤ q) × (is_kind RetransmissionResponse x.kind ≡ true) × (is_retr_req e.phase ≡ true))

accept_there_is : (slot q : ℕ) (c : FirstCopy) (b b2 : Built) → take_step slot q c.pdu b ≡ Some b2 → b2.end.state.accepted ≡ suc q → accept_there slot q (Some c) b ≡ Some b2
accept_there_is slot q c b b2 h k = (let z : (b2.end.state.accepted == suc q) ≡ true = is_same b2.end.state.accepted (suc q) k in rw h (rw z refl))

module _ (p : Parameters) (start : Option ℕ) (side : Side) (quiet_sn : Option ℕ) (e : EndState) (taken : ℕ) (ms : List Made) (sent : List FirstCopy) (b : Built) (base n : ℕ)
    (copies : AreCopies quiet_sn sent ms base n) (few : length ms ≤ 2147483648)
    (free : e.owed ≡ []) (fault : take_fault p e e.clock ≡ None) (more : ConveysNoMore e)
    (q : ℕ) (m : Made) (there : slice_get ms q ≡ Some m) (above : taken ≤ q) (based : base ≤ q) (row : TakeRow) (is : take_row p e m.pdu ≡ Some row)
    (asks : length (effect p row e m.pdu).asks ≤ number (is_kind RetransmissionRequest) (take (suc q) ms)) where
  -- the copy at the position
  copy : FirstCopy
  copy = (copies q m there based).0

  copy_is : copy.pdu.safety ≡ m.pdu
  unfolding copy
  copy_is = (copies q m there based).2

  copy_there : (b1 : Built) → b1.peer.quiet_sn ≡ quiet_sn → copy_at b1.peer.quiet_sn sent q ≡ Some copy
  unfolding copy
  copy_there b1 h = ap (λ (z : Option ℕ). copy_at z sent q) h ∙ (copies q m there based).1

  response_is : (k : Option ℕ) → k ≡ quiet_sn → is_response (copy_at k sent q) ≡ is_kind RetransmissionResponse m.pdu.kind
  response_is k h = ap (λ (z : Option FirstCopy). is_response z) (ap (λ (z : Option ℕ). copy_at z sent q) h ∙ (copies q m there based).1) ∙ ap (λ (z : SafetyPdu). is_kind RetransmissionResponse z.kind) copy_is'
    where
      copy_is' : (copies q m there based).0.pdu.safety ≡ m.pdu
      copy_is' = (copies q m there based).2

  -- the builder's end takes the position as well
  step_there : (mark slot : ℕ) (b1 : Built) → mark ≤ q → IsReady p start side quiet_sn e mark ms b1 → (effect p row e m.pdu).accepted ≡ suc q
      → (b2 : Built) × (accept_step sent slot q b1 ≡ Some b2) × IsReady p start side quiet_sn (effect p row e m.pdu) (suc q) ms b2
  step_there mark slot b1 l r acc =
      let is' : take_row p e copy.pdu.safety ≡ Some row = ap (λ (z : SafetyPdu). take_row p e z) copy_is ∙ is in
      let same : effect p row e copy.pdu.safety ≡ effect p row e m.pdu = ap (λ (z : SafetyPdu). effect p row e z) copy_is in
      let asks' : length (effect p row e copy.pdu.safety).asks ≤ number (is_kind RetransmissionRequest) (take (suc q) ms) = subst (λ (z : EndState). length z.asks ≤ number (is_kind RetransmissionRequest) (take (suc q) ms)) (sym same) asks in
      let b2 : Built = taken_by (Some row) slot q copy.pdu b1 in
      let x = ready_effect p start side quiet_sn e mark ms b1 r slot q copy.pdu row (let z = slice_get_within ms q m there in omega (arith, z)) free more is' asks' in
      let y : IsReady p start side quiet_sn (effect p row e m.pdu) (suc q) ms b2 = subst (λ (z : EndState). IsReady p start side quiet_sn z (suc q) ms b2) same x in
      let t = ready_step p start side quiet_sn e mark ms b1 r slot q copy.pdu (Some row) l fault is' in
      let a : b2.end.state.accepted ≡ suc q = ap (λ (z : EndState). z.accepted) y.state ∙ acc in
      (b2, rw (copy_there b1 r.quiet) (accept_there_is slot q copy b1 b2 t a), y)

  -- so that it catches up with an end that accepted one PDU more
  pub lag_accepts : (mark : ℕ) → mark ≤ taken → b.end.state.accepted ≤ e.accepted
      → ((slot : ℕ) → (b1 : Built) × (catch_up sent slot e.accepted b ≡ Some b1) × IsReady p start side quiet_sn e mark ms b1)
      → (b.end.state.accepted < e.accepted → is_retr_req e.phase ≡ false) → (is_owing b.end.state.owed ≡ true → e.accepted ≡ b.end.state.accepted) → b.peer.quiet_sn ≡ quiet_sn
      → Accepting p e m.pdu row q → IsLag p start side quiet_sn (effect p row e m.pdu) (suc q) ms sent b
  lag_accepts mark ml low caught calm still quiet a = record {
    base = effect p row e m.pdu;
    mark = suc q;
    marked = omega arith;
    low = (let z = a.accepted in let y = ⊎_elim (λ (w : (q ≡ e.accepted) × (is_kind RetransmissionResponse m.pdu.kind ≡ false) × (is_retr_req e.phase ≡ false)). (let v = w.0 in let u : e.accepted ≤ q = omega arith in u)) (λ (w : (e.accepted ≤ q) × (is_kind RetransmissionResponse m.pdu.kind ≡ true) × (is_retr_req e.phase ≡ true)). w.0) a.how in omega (arith, z, y, low));
    caught = λ slot. at slot (caught slot);
    calm = λ l. a.calm;
    still = λ o. absurd (unowing o);
    stage = inl refl;
  }
    where
      itself : e.accepted ≡ b.end.state.accepted → IsReady p start side quiet_sn e mark ms b
      itself h = (let c = caught 0 in subst (λ (z : Built). IsReady p start side quiet_sn e mark ms z) (sym (caught_itself sent 0 e.accepted b c.0 h c.1)) c.2)

      unowing : is_owing b.end.state.owed ≡ true → ⊥
      unowing o = (let r = itself (still o) in let z : is_owing b.end.state.owed ≡ false = ap (λ (s : EndState). is_owing s.owed) r.state ∙ ap is_owing free in cc)

      at : (slot : ℕ) → (b1 : Built) × (catch_up sent slot e.accepted b ≡ Some b1) × IsReady p start side quiet_sn e mark ms b1
          → (b2 : Built) × (catch_up sent slot (effect p row e m.pdu).accepted b ≡ Some b2) × IsReady p start side quiet_sn (effect p row e m.pdu) (suc q) ms b2
      at slot c =
          let s = step_there mark slot c.0 (omega (arith, ml, above)) c.2 a.accepted in
          let to : catch_up sent slot (suc q) b ≡ accept_step sent slot q c.0 = ⊎_elim
          (λ (w : (q ≡ e.accepted) × (is_kind RetransmissionResponse m.pdu.kind ≡ false) × (is_retr_req e.phase ≡ false)).
          (let h : catch_up sent slot q b ≡ Some c.0 = subst (λ z. catch_up sent slot z b ≡ Some c.0) (sym w.0) c.1 in
          flows slot c.0 (is_retr_req b.end.state.phase) refl h w.0 w.1 w.2))
          (λ (w : (e.accepted ≤ q) × (is_kind RetransmissionResponse m.pdu.kind ≡ true) × (is_retr_req e.phase ≡ true)).
          (let same : e.accepted ≡ b.end.state.accepted = (let n : b.end.state.accepted < e.accepted → ⊥ = λ l. (let z = calm l in let y = w.2 in cc) in omega (arith, n, low)) in
          let r = itself same in
          let ph : is_retr_req b.end.state.phase ≡ true = ap (λ (s : EndState). is_retr_req s.phase) r.state ∙ w.2 in
          let i = caught_itself sent slot e.accepted b c.0 same c.1 in
          catch_waiting sent slot q b ph (let z = w.0 in omega (arith, z, low)) (response_is b.peer.quiet_sn quiet ∙ w.1) ∙ ap (λ (z : Built). accept_step sent slot q z) i))
          a.how in
          (s.0, ap (λ z. catch_up sent slot z b) a.accepted ∙ (to ∙ s.1), s.2)
        where
          flows : (slot : ℕ) (b1 : Built) (rr : Bool) → is_retr_req b.end.state.phase ≡ rr → catch_up sent slot q b ≡ Some b1 → q ≡ e.accepted → is_kind RetransmissionResponse m.pdu.kind ≡ false → is_retr_req e.phase ≡ false
              → catch_up sent slot (suc q) b ≡ accept_step sent slot q b1
          flows slot b1 false ph h v plain away = catch_flowing sent slot q b b1 ph (omega (arith, low, v)) h
          flows slot b1 true ph h v plain away =
              let l : b.end.state.accepted < q = (let n : e.accepted ≡ b.end.state.accepted → ⊥ = λ z. (let r = itself z in let y : is_retr_req b.end.state.phase ≡ false = ap (λ (s : EndState). is_retr_req s.phase) r.state ∙ away in cc) in omega (arith, n, low, v)) in
              catch_resumed sent slot q b b1 ph l (response_is b.peer.quiet_sn quiet ∙ plain) h
