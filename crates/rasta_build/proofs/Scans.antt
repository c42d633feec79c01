-- What starts a request, and which request is answered.
use Rattle.std.proofs.Common.{◌≡◌, ℕ, zero, suc, ◌+◌, ◌<◌, ◌≤◌, ◌⊎◌, Bool, true, false, List, [], ◌∷◌, length, Option, Some, None, slice_get, take, refl, ap, sym, ◌∙◌, arith, inl, inr, subst, ⊎_elim}
use Rattle.rasta_build.proofs.Prelude.{nat_lt, ◌==◌, nat_tests, slice_get_within, Side, Parameters, SafetyPdu, is_kind, Kind, RetransmissionRequest}
use Rattle.rasta_build.proofs.Prelude.{RetransmissionResponse, OweRetransmissionRequest, RetrReq, TakeRow}
use Rattle.rasta_build.proofs.Prelude.{Gap, GapInRetransmission, RequestedAhead, RequestedWhileAsking, Made, EndState, is_owing}
use Rattle.rasta_build.proofs.Prelude.{effect, take_row, take_fault, steps_past_next, is_in, is_ahead, FirstCopy, number, slice_get_some, Built, copy_at, is_trigger}
use Rattle.rasta_build.proofs.Prelude.{taken_by}
use Rattle.rasta_pdu.specs.Pdu.{is_timed, is_heartbeat_or_data}
use Rattle.rasta_check.proofs.Model.Counts.{number_take_more, number_take_at}
use Rattle.rasta_build.specs.Explaining.{try_at, scan, first_tried, take_trigger, positions_tried}
use Rattle.rasta_build.proofs.Readiness.{IsReady, ConveysNoMore, ready_step, ready_effect}
use Rattle.rasta_build.proofs.Comparisons.{lt_is}

-- the peer's PDUs crossed before a place, and are found where they stand
abbrev pub AreCopies : Option ℕ → List FirstCopy → List Made → ℕ → ℕ → Type 0
AreCopies quiet_sn sent ms base n = (i : ℕ) (m : Made) → slice_get ms i ≡ Some m → base ≤ i → (c : FirstCopy) × (copy_at quiet_sn sent i ≡ Some c) × (c.pdu.safety ≡ m.pdu) × (c.place < n)

-- an end finds the position of each PDU of its peer up to this one by its SN
abbrev pub Names : EndState → List Made → ℕ → Type 0
Names e ms q = (j : ℕ) (m : Made) → slice_get ms j ≡ Some m → e.accepted ≤ j → j ≤ q → e.accepted + steps_past_next e m.pdu ≡ j

-- ---- a scan

-- what is tried at a position: nothing changes, or it ends the scan
abbrev pub Tries : (Built → Type 0) → List FirstCopy → ℕ → Kind → ℕ → Built → ℕ → Type 0
Tries P sent slot made q b j =
    (c : FirstCopy) × (copy_at b.peer.quiet_sn sent j ≡ Some c) × (nat_lt c.place slot ≡ true)
    × (((try_at (is_trigger made c.pdu.safety.kind) slot j c.pdu b ≡ Some b) × (j ≡ q → ⊥))
    ⊎ ((b2 : Built) × (try_at (is_trigger made c.pdu.safety.kind) slot j c.pdu b ≡ Some b2) × (is_owing b2.end.state.owed ≡ true) × P b2))

scan_on : (P : Built → Type 0) (sent : List FirstCopy) (slot : ℕ) (made : Kind) (q : ℕ) (b : Built) → is_owing b.end.state.owed ≡ false
    → (n first : ℕ) → first ≤ q → Tries P sent slot made q b first → ((first ≡ q → ⊥) → (b2 : Built) × (scan sent slot made (suc first) n b ≡ Some b2) × P b2)
    → (b2 : Built) × (scan sent slot made first (suc n) b ≡ Some b2) × P b2
scan_on P sent slot made q b free n first l t rest = ⊎_elim
    (λ (same : (try_at (is_trigger made t.0.pdu.safety.kind) slot first t.0.pdu b ≡ Some b) × (first ≡ q → ⊥)).
    (let r = rest same.1 in (r.0, rw (t.1) (rw (t.2) (rw (same.0) (rw free r.1))), r.2)))
    (λ (new : (b2 : Built) × (try_at (is_trigger made t.0.pdu.safety.kind) slot first t.0.pdu b ≡ Some b2) × (is_owing b2.end.state.owed ≡ true) × P b2).
    (new.0, rw (t.1) (rw (t.2) (rw (new.1) (rw (new.2) refl))), new.3))
    t.3

pub scan_finds : (P : Built → Type 0) (sent : List FirstCopy) (slot : ℕ) (made : Kind) (q : ℕ) (b : Built) → is_owing b.end.state.owed ≡ false
    → (n first : ℕ) → first ≤ q → q < first + n → ((j : ℕ) → first ≤ j → j ≤ q → Tries P sent slot made q b j)
    → (b2 : Built) × (scan sent slot made first n b ≡ Some b2) × P b2
scan_finds P sent slot made q b free zero first l m each = absurd (omega arith)
scan_finds P sent slot made q b free (suc n) first l m each =
    scan_on P sent slot made q b free n first l (each first (omega arith) l)
    (λ k. scan_finds P sent slot made q b free n (suc first) (omega (arith, k)) (omega arith) (λ j x y. each j (omega arith) y))

-- ---- rows by which something ahead makes something owed

abbrev pub is_gap : TakeRow → Bool
is_gap Gap = true
is_gap GapInRetransmission = true
is_gap _ = false

abbrev pub is_request_ahead : TakeRow → Bool
is_request_ahead RequestedAhead = true
is_request_ahead RequestedWhileAsking = true
is_request_ahead _ = false

-- a request is owed
abbrev pub gapped : EndState → EndState
gapped e = record e { phase = RetrReq; owed = OweRetransmissionRequest ∷ [] }

gap_effect : (p : Parameters) (row : TakeRow) (e : EndState) (x : SafetyPdu) → is_gap row ≡ true → effect p row e x ≡ gapped e
gap_effect p row e x h = grind arith

off : {P : Type 0} → false ≡ true → P
off e = absurd (cc)

-- a time-relevant PDU that isn't in sequence is taken by such a row, or by none
timed_rows : (p : Parameters) (e : EndState) (x : SafetyPdu) → is_timed x.kind ≡ true → is_in e x ≡ false → (row : TakeRow) → take_row p e x ≡ Some row → is_gap row ≡ true
timed_rows p e x h g row k = grind arith

fresh_timed : (k : Kind) → is_heartbeat_or_data k ≡ true → is_timed k ≡ true
fresh_timed k h = grind arith

gap_timed : (p : Parameters) (e : EndState) (x : SafetyPdu) (row : TakeRow) → is_gap row ≡ true → take_row p e x ≡ Some row → is_timed x.kind ≡ true
gap_timed p e x row h g = grind arith

ahead_request : (p : Parameters) (e : EndState) (x : SafetyPdu) (row : TakeRow) → is_request_ahead row ≡ true → take_row p e x ≡ Some row → x.kind ≡ RetransmissionRequest
ahead_request p e x row h g = grind arith

owing_ahead : (p : Parameters) (e : EndState) (x : SafetyPdu) (row : TakeRow) → is_request_ahead row ≡ true → is_owing (effect p row e x).owed ≡ true
owing_ahead p e x row h = grind arith

steps_in : (s : ℕ) → 0 < s → (s == 0) ≡ false
steps_in s h = grind (arith, nat_tests)

-- ---- a builder's end tries the peer's PDUs
module _ (p : Parameters) (start : Option ℕ) (side : Side) (quiet_sn : Option ℕ) (e : EndState) (taken : ℕ) (ms : List Made) (b : Built) (r : IsReady p start side quiet_sn e taken ms b)
    (sent : List FirstCopy) (base n slot : ℕ) (one : base ≤ 1) (copies : AreCopies quiet_sn sent ms base n) (late : n ≤ slot) (few : length ms ≤ 1000001)
    (free : e.owed ≡ []) (fault : take_fault p e e.clock ≡ None) (more : ConveysNoMore e) where
  -- the marks of the builder's end are its own
  low : IsReady p start side quiet_sn e b.next_take ms b
  low = record { clock = r.clock; deadline = r.deadline; near = r.near; state = r.state; params = r.params; now = r.now; of_side = r.of_side; quiet = r.quiet; next = omega arith; trail = r.trail; asked = r.asked }

  later : (t u : ℕ) (f : EndState) (c : Built) → t ≤ u → IsReady p start side quiet_sn f t ms c → IsReady p start side quiet_sn f u ms c
  later t u f c l k = record { clock = k.clock; deadline = k.deadline; near = k.near; state = k.state; params = k.params; now = k.now; of_side = k.of_side; quiet = k.quiet; next = (let z = k.next in omega (arith, z)); trail = k.trail; asked = k.asked }

  unowing : is_owing b.end.state.owed ≡ false
  unowing = ap (λ (z : EndState). is_owing z.owed) r.state ∙ ap is_owing free

  found : (j : ℕ) (m : Made) → slice_get ms j ≡ Some m → base ≤ j → (c : FirstCopy) × (copy_at b.peer.quiet_sn sent j ≡ Some c) × (c.pdu.safety ≡ m.pdu) × (nat_lt c.place slot ≡ true)
  found j m g l = let c = copies j m g l in (c.0, ap (λ (z : Option ℕ). copy_at z sent j) r.quiet ∙ c.1, c.2, lt_is c.0.place slot (let z = c.3 in omega (arith, z)))

  -- the PDU that the run's end took, by a row
  module _ (q : ℕ) (m : Made) (row : TakeRow) (there : slice_get ms q ≡ Some m) (above : taken ≤ q) (ahead : suc e.accepted ≤ q) (is : take_row p e m.pdu ≡ Some row) (names : Names e ms q) where
    abbrev Found : Built → Type 0
    Found = IsReady p start side quiet_sn (effect p row e m.pdu) (suc q) ms

    first_low : first_tried b ≤ q
    first_low = (let a : b.end.state.accepted ≡ e.accepted = ap (λ (z : EndState). z.accepted) r.state in let z = r.next in omega (arith, a, z, above, ahead))

    same_there : (j : ℕ) (m' : Made) → slice_get ms j ≡ Some m' → j ≡ q → m' ≡ m
    same_there j m' g h = (let g' : slice_get ms q ≡ Some m' = subst (λ k. slice_get ms k ≡ Some m') h g in cc)

    asks_more : (j : ℕ) → first_tried b ≤ j → length e.asks ≤ number (is_kind RetransmissionRequest) (take (suc j) ms)
    asks_more j l = (let z = number_take_more (is_kind RetransmissionRequest) ms b.next_take (suc j) (omega (arith, l)) in let y = r.asked in omega (arith, z, y))

    accepted_same : b.end.state.accepted ≡ e.accepted
    accepted_same = ap (λ (z : EndState). z.accepted) r.state

    abbrev Outcome : ℕ → FirstCopy → Bool → Type 0
    Outcome j c t = ((try_at t slot j c.pdu b ≡ Some b) × (j ≡ q → ⊥)) ⊎ ((b2 : Built) × (try_at t slot j c.pdu b ≡ Some b2) × (is_owing b2.end.state.owed ≡ true) × Found b2)

    -- the position is taken by a row with the same effect
    by_row : (j : ℕ) → first_tried b ≤ j → j ≤ q → (c : FirstCopy) (row' : TakeRow) → take_row p e c.pdu.safety ≡ Some row' → effect p row' e c.pdu.safety ≡ effect p row e m.pdu
        → length (effect p row e m.pdu).asks ≤ number (is_kind RetransmissionRequest) (take (suc j) ms) → is_owing (effect p row e m.pdu).owed ≡ true → Outcome j c true
    by_row j l k c row' w same asks owing =
        let a : length (effect p row' e c.pdu.safety).asks ≤ number (is_kind RetransmissionRequest) (take (suc j) ms) = subst (λ (z : EndState). length z.asks ≤ number (is_kind RetransmissionRequest) (take (suc j) ms)) (sym same) asks in
        let x = ready_effect p start side quiet_sn e b.next_take ms b low slot j c.pdu row' (let z = slice_get_within ms q m there in omega (arith, z)) free more w a in
        let y : Found (taken_by (Some row') slot j c.pdu b) = subst (λ (z : EndState). IsReady p start side quiet_sn z (suc q) ms (taken_by (Some row') slot j c.pdu b)) same (later (suc j) (suc q) (effect p row' e c.pdu.safety) (taken_by (Some row') slot j c.pdu b) (omega arith) x) in
        inr (taken_by (Some row') slot j c.pdu b, ready_step p start side quiet_sn e b.next_take ms b low slot j c.pdu (Some row') (omega (arith, l)) fault w, ap (λ (z : EndState). is_owing z.owed) y.state ∙ owing, y)

    -- a PDU ahead makes a request owed
    gap_by : is_gap row ≡ true → (j : ℕ) → first_tried b ≤ j → j ≤ q → (m' : Made) → slice_get ms j ≡ Some m' → (c : FirstCopy) → c.pdu.safety ≡ m'.pdu
        → (t : Bool) → is_timed c.pdu.safety.kind ≡ t → (o : Option TakeRow) → take_row p e c.pdu.safety ≡ o → Outcome j c t
    gap_by g j l k m' at c s false h o w = inl (
      refl,
      λ z. (let y = same_there j m' at z in
          let i : is_timed c.pdu.safety.kind ≡ true = ap (λ (v : SafetyPdu). is_timed v.kind) s ∙ (ap (λ (v : Made). is_timed v.pdu.kind) y ∙ gap_timed p e m.pdu row g is) in off (sym h ∙ i)),
    )
    gap_by g j l k m' at c s true h None w = inl (
      ready_step p start side quiet_sn e b.next_take ms b low slot j c.pdu None (omega (arith, l)) fault w,
      λ z. (let y = same_there j m' at z in
          let i : take_row p e c.pdu.safety ≡ Some row = ap (λ (v : SafetyPdu). take_row p e v) s ∙ (ap (λ (v : Made). take_row p e v.pdu) y ∙ is) in cc),
    )
    gap_by g j l k m' at c s true h (Some row') w =
        let a = accepted_same in
        let nm = names j m' at (omega (arith, l, a)) k in
        let nin : is_in e c.pdu.safety ≡ false = ap (λ (v : SafetyPdu). is_in e v) s ∙ steps_in (steps_past_next e m'.pdu) (omega (arith, nm, l, a)) in
        let g' = timed_rows p e c.pdu.safety h nin row' w in
        let eff : effect p row e m.pdu ≡ gapped e = gap_effect p row e m.pdu g in
        by_row j l k c row' w (gap_effect p row' e c.pdu.safety g' ∙ sym eff)
        (subst (λ (z : EndState). length z.asks ≤ number (is_kind RetransmissionRequest) (take (suc j) ms)) (sym eff) (asks_more j l)) (ap (λ (z : EndState). is_owing z.owed) eff)

    here : (j : ℕ) → j ≤ q → (m' : Made) × (slice_get ms j ≡ Some m')
    here j k = slice_get_some ms j (let z = slice_get_within ms q m there in omega (arith, z))

    gap_tried : is_gap row ≡ true → (j : ℕ) → first_tried b ≤ j → j ≤ q → Tries Found sent slot RetransmissionRequest q b j
    gap_tried g j l k =
        let h = here j k in
        let f = found j h.0 h.1 (omega (arith, l, one)) in
        (f.0, f.1, f.3, gap_by g j l k h.0 h.1 f.0 f.2 (is_timed f.0.pdu.safety.kind) refl (take_row p e f.0.pdu.safety) refl)

    -- no request stands between what the builder's end took and the one that the run's end answers
    module _ (answered : number (is_kind RetransmissionRequest) (take q ms) ≡ length e.asks) where
      pub only_request : (j : ℕ) → first_tried b ≤ j → j < q → (m' : Made) → slice_get ms j ≡ Some m' → is_kind RetransmissionRequest m'.pdu.kind ≡ true → ⊥
      only_request j l k m' at is_a =
          let x = number_take_at (is_kind RetransmissionRequest) ms j m' at is_a in
          let y = number_take_more (is_kind RetransmissionRequest) ms b.next_take j (omega (arith, l)) in
          let z = number_take_more (is_kind RetransmissionRequest) ms (suc j) q k in
          let w = r.asked in
          omega (arith, x, y, z, w, answered)

      request_by : is_request_ahead row ≡ true → length (effect p row e m.pdu).asks ≤ number (is_kind RetransmissionRequest) (take (suc q) ms) → (j : ℕ) → first_tried b ≤ j → j ≤ q → (m' : Made) → slice_get ms j ≡ Some m' → (c : FirstCopy) → c.pdu.safety ≡ m'.pdu
          → (t : Bool) → is_kind RetransmissionRequest c.pdu.safety.kind ≡ t → Outcome j c t
      request_by g asks j l k m' at c s false h = inl (
        refl,
        λ z. (let y = same_there j m' at z in
            let i : is_kind RetransmissionRequest c.pdu.safety.kind ≡ true = ap (λ (v : SafetyPdu). is_kind RetransmissionRequest v.kind) s ∙ (ap (λ (v : Made). is_kind RetransmissionRequest v.pdu.kind) y ∙ ap (is_kind RetransmissionRequest) (ahead_request p e m.pdu row g is)) in off (sym h ∙ i)),
      )
      request_by g asks j l k m' at c s true h =
          let not_less : j < q → ⊥ = λ z. only_request j l z m' at (ap (λ (v : SafetyPdu). is_kind RetransmissionRequest v.kind) (sym s) ∙ h) in
          let z : j ≡ q = omega (arith, not_less, k) in
          let x : c.pdu.safety ≡ m.pdu = s ∙ ap (λ (v : Made). v.pdu) (same_there j m' at z) in
          by_row j l k c row (ap (λ (v : SafetyPdu). take_row p e v) x ∙ is) (ap (λ (v : SafetyPdu). effect p row e v) x)
          (subst (λ n. length (effect p row e m.pdu).asks ≤ number (is_kind RetransmissionRequest) (take (suc n) ms)) (sym z) asks) (owing_ahead p e m.pdu row g)

      request_tried : is_request_ahead row ≡ true → length (effect p row e m.pdu).asks ≤ number (is_kind RetransmissionRequest) (take (suc q) ms) → (j : ℕ) → first_tried b ≤ j → j ≤ q → Tries Found sent slot RetransmissionResponse q b j
      request_tried g asks j l k =
          let h = here j k in
          let f = found j h.0 h.1 (omega (arith, l, one)) in
          (f.0, f.1, f.3, request_by g asks j l k h.0 h.1 f.0 f.2 (is_kind RetransmissionRequest f.0.pdu.safety.kind) refl)

    within : is_ahead p e m.pdu ≡ true → q < first_tried b + positions_tried b
    within h = grind arith

    -- the builder takes what makes a request owed
    pub gap_found : is_gap row ≡ true → is_ahead p e m.pdu ≡ true → (b2 : Built) × (take_trigger sent slot RetransmissionRequest b ≡ Some b2) × Found b2
    gap_found g h =
        let s = scan_finds Found sent slot RetransmissionRequest q b unowing (positions_tried b) (first_tried b) first_low (within h) (gap_tried g) in
        (s.0, rw unowing s.1, s.2)

    -- the builder takes the request that is answered
    pub request_found : number (is_kind RetransmissionRequest) (take q ms) ≡ length e.asks → is_request_ahead row ≡ true → length (effect p row e m.pdu).asks ≤ number (is_kind RetransmissionRequest) (take (suc q) ms) → is_ahead p e m.pdu ≡ true
        → (b2 : Built) × (take_trigger sent slot RetransmissionResponse b ≡ Some b2) × Found b2
    request_found answered g asks h =
        let s = scan_finds Found sent slot RetransmissionResponse q b unowing (positions_tried b) (first_tried b) first_low (within h) (request_tried answered g asks) in
        (s.0, rw unowing s.1, s.2)
