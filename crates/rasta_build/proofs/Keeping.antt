-- What the steps of an end keep of it, and how far they raise what is accepted.
use Rattle.std.proofs.Common.{◌≡◌, ℕ, zero, suc, ◌+◌, ◌-◌, ◌^◌, ◌<◌, ◌≤◌, Bool, true, false, List, length, Option, Some, None, refl, ap, sym, ◌∙◌, arith, subst, ⊎_elim}
use Rattle.rasta_build.proofs.Prelude.{if◌then◌else◌, Parameters, SafetyPdu, RedundancyPdu, Kind, RetransmissionResponse, TakeRow}
use Rattle.rasta_build.proofs.Prelude.{FirstHeartbeat, InSequence, ResentInSequence, Resumed, Requested, Owed, EndState, carries_unit, is_owing, accept, enter, hand_up, is_in}
use Rattle.rasta_build.proofs.Prelude.{steps_past_next, effect, take_row, FirstCopy, row_known, Built, is_trigger, taken_by}
use Rattle.rasta_build.proofs.Prelude.{take_step, accept_from}
use Rattle.rasta_check.proofs.Model.TakeRows.{accepted_after}
use Rattle.rasta_build.specs.Explaining.{accept_step, then_built, try_step, scan}
use Rattle.rasta_build.proofs.Comparisons.{was_same}
use Rattle.rasta_build.proofs.Succeeding.{took, accepted, tried}

-- the parameters stay, and so much more is accepted
abbrev pub Keeps : Built → Built → Type 0
Keeps b b' = (b'.end.params ≡ b.end.params) × (b'.end.state.accepted ≤ b.end.state.accepted + 2 ^ 32)

pub take_keeps : (slot q : ℕ) (x : RedundancyPdu) (b b' : Built) → take_step slot q x b ≡ Some b' → Keeps b b'
take_keeps slot q x b b' h = (let t = took slot q x b b' h in rw (sym t.after) (by t.row t.is))
  where
    by : (o : Option TakeRow) → take_row b.end.params b.end.state x.safety ≡ o → Keeps b (taken_by o slot q x b)
    by None w = (refl, omega arith)
    by (Some row) w = (refl, rw w at (accepted_after b.end.params b.end.state x.safety))

-- where a position is accepted, it is the last one
abbrev pub Accepts : ℕ → Built → Built → Type 0
Accepts q b b' = (b'.end.params ≡ b.end.params) × (b'.end.state.accepted ≡ suc q)

pub accept_keeps : (sent : List FirstCopy) (slot q : ℕ) (b b' : Built) → accept_step sent slot q b ≡ Some b' → Accepts q b b'
accept_keeps sent slot q b b' h = (let a = accepted sent slot q b b' h in ((take_keeps slot q a.copy.pdu b b' a.taken).0, a.last))

-- one PDU more is accepted
pub accept_more : (sent : List FirstCopy) (slot first q : ℕ) (b b1 b2 : Built) → first ≤ q → accept_from sent slot first (q - first) b ≡ Some b1 → accept_step sent slot q b1 ≡ Some b2
    → accept_from sent slot first (q + 1 - first) b ≡ Some b2
accept_more sent slot first q b b1 b2 l h k =
    let more : q + 1 - first ≡ suc (q - first) = omega arith in
    let next : first + (q - first) ≡ q = omega arith in
    ap (λ (m : ℕ). accept_from sent slot first m b) more
    ∙ (ap (λ (o : Option Built). then_built o (accept_step sent slot (first + (q - first)))) h ∙ (ap (λ (m : ℕ). accept_step sent slot m b1) next ∙ k))

none_more : (sent : List FirstCopy) (slot first n m k : ℕ) (b : Built) → k ≡ m + n → accept_from sent slot first n b ≡ None → accept_from sent slot first k b ≡ None
none_more sent slot first n zero k b e h = (let z : k ≡ n = omega (arith, e) in rw z h)
none_more sent slot first n (suc m) k b e h =
    let z : k ≡ suc (m + n) = omega (arith, e) in
    rw z (ap (λ (o : Option Built). then_built o (accept_step sent slot (first + (m + n)))) (none_more sent slot first n m (m + n) b refl h))

-- or one isn't, and then no further one
pub accept_stuck : (sent : List FirstCopy) (slot first bound q : ℕ) (b b1 : Built) → first ≤ q → q < bound → accept_from sent slot first (q - first) b ≡ Some b1 → accept_step sent slot q b1 ≡ None
    → accept_from sent slot first (bound - first) b ≡ None
accept_stuck sent slot first bound q b b1 l m h k =
    let next : first + (q - first) ≡ q = omega arith in
    none_more sent slot first (suc (q - first)) (bound - suc q) (bound - first) b (omega arith)
    (ap (λ (o : Option Built). then_built o (accept_step sent slot (first + (q - first)))) h ∙ (ap (λ (j : ℕ). accept_step sent slot j b1) next ∙ k))

-- the search goes on where nothing is owed yet
scan_steps : (sent : List FirstCopy) (slot : ℕ) (made : Kind) (q bound : ℕ) (b b1 : Built) → q < bound → try_step sent slot made q b ≡ Some b1
    → scan sent slot made q (bound - q) b ≡ (if is_owing b1.end.state.owed then Some b1 else scan sent slot made (suc q) (bound - suc q) b1)
scan_steps sent slot made q bound b b1 h g = grind arith

owing : (os : List Owed) → 0 < length os → is_owing os ≡ true
owing os h = grind arith

owing_none : (os : List Owed) → length os ≤ 0 → is_owing os ≡ false
owing_none os h = grind arith

pub scan_on : (sent : List FirstCopy) (slot : ℕ) (made : Kind) (q bound : ℕ) (b b1 : Built) → q < bound → try_step sent slot made q b ≡ Some b1 → length b1.end.state.owed ≤ 0
    → scan sent slot made q (bound - q) b ≡ scan sent slot made (q + 1) (bound - (q + 1)) b1
scan_on sent slot made q bound b b1 l h none =
    let next : suc q ≡ q + 1 = omega arith in
    scan_steps sent slot made q bound b b1 l h
    ∙ (ap (λ (t : Bool). if t then Some b1 else scan sent slot made (suc q) (bound - suc q) b1) (owing_none b1.end.state.owed none)
    ∙ ap (λ (j : ℕ). scan sent slot made j (bound - j) b1) next)

-- and ends where something is
pub scan_ends : (sent : List FirstCopy) (slot : ℕ) (made : Kind) (q bound : ℕ) (b b1 : Built) → q < bound → try_step sent slot made q b ≡ Some b1 → 0 < length b1.end.state.owed
    → scan sent slot made q (bound - q) b ≡ Some b1
scan_ends sent slot made q bound b b1 h g k = grind arith

-- a PDU that is tried
pub try_keeps : (sent : List FirstCopy) (slot : ℕ) (made : Kind) (q : ℕ) (b b' : Built) → try_step sent slot made q b ≡ Some b' → Keeps b b'
try_keeps sent slot made q b b' h =
    let t = tried sent slot made q b b' h in
    ⊎_elim (λ (same : b ≡ b'). subst (Keeps b) same (refl, omega arith)) (λ w. take_keeps slot q t.copy.pdu b b' w.1) t.taken

-- ---- what an end answers or asks for is accepted in sequence, if at all

handed : (c : Bool) (i : ℕ) (e : EndState) (x : SafetyPdu) (n : ℕ) → e.accepted ≤ n → (if c then hand_up i e x else e).accepted ≤ n
handed c i e x n h = grind arith

next_accepted : (p : Parameters) (e : EndState) (x : SafetyPdu) → is_in e x ≡ true → (accept p e x).accepted ≤ suc e.accepted
next_accepted p e x h = (let z = was_same (steps_past_next e x) 0 h in omega (arith, z))

no_response : (made k : Kind) → is_trigger made k ≡ true → k ≡ RetransmissionResponse → ⊥
no_response made k h g = grind arith

row_next : (p : Parameters) (e : EndState) (x : SafetyPdu) (made : Kind) → is_trigger made x.kind ≡ true → (row : TakeRow) → take_row p e x ≡ Some row → (effect p row e x).accepted ≤ suc e.accepted
row_next p e x made t FirstHeartbeat w = (let k = row_known p e x FirstHeartbeat w in next_accepted p e x k.4)
row_next p e x made t InSequence w = (let k = row_known p e x InSequence w in handed (carries_unit x.kind) e.accepted (enter _ (accept p e x)) x (suc e.accepted) (next_accepted p e x k.3))
row_next p e x made t ResentInSequence w = (let k = row_known p e x ResentInSequence w in handed (carries_unit x.kind) e.accepted (accept p e x) x (suc e.accepted) (next_accepted p e x k.3))
row_next p e x made t Resumed w = (let k = row_known p e x Resumed w in absurd (no_response made x.kind t k.1))
row_next p e x made t Requested w = (let k = row_known p e x Requested w in next_accepted p e x k.3)
row_next p e x made t _ w = omega arith

pub trigger_next : (made : Kind) (slot q : ℕ) (x : RedundancyPdu) (b b' : Built) → is_trigger made x.safety.kind ≡ true → take_step slot q x b ≡ Some b' → b'.end.state.accepted ≤ suc b.end.state.accepted
trigger_next made slot q x b b' t h = (let w = took slot q x b b' h in rw (sym w.after) (by w.row w.is))
  where
    by : (o : Option TakeRow) → take_row b.end.params b.end.state x.safety ≡ o → (taken_by o slot q x b).end.state.accepted ≤ suc b.end.state.accepted
    by None w = omega arith
    by (Some row) w = row_next b.end.params b.end.state x.safety made t row w
