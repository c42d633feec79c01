-- What a step of the builder says that succeeds.
use Rattle.std.proofs.Common.{◌≡◌, ℕ, suc, ◌<◌, ◌⊎◌, Bool, true, false, List, Option, Some, None, refl, arith, subst, inl, inr}
use Rattle.rasta_build.proofs.Prelude.{if◌then◌else◌, ◌==◌, ◌||◌, not, nat_lt, is_before, Kind, TakeRow, take_row, take_fault, FirstCopy, Built, copy_at, is_trigger, built_unless, taken_by, take_step}
use Rattle.rasta_pdu.specs.Pdu.{RedundancyPdu}
use Rattle.rasta_build.specs.Explaining.{then_built, if_accepted, accept_there, accept_step, try_at, try_there, try_step, go_on}
use Rattle.rasta_build.proofs.Comparisons.{less_is, was_same}

-- what holds of what was there holds of what is found
pub kept : {A : Type 0} (P : A → Type 0) {a b : A} → Some a ≡ Some b → P a → P b
kept P e x = subst P (cc) x

-- the test held, or it didn't
pub if_then : {A : Type 0} (t : Bool) (o : Option A) (b : A) → (if t then o else None) ≡ Some b → (t ≡ true) × (o ≡ Some b)
if_then t o b h = grind arith

pub if_else : {A : Type 0} (t : Bool) (o : Option A) (b : A) → (if t then None else o) ≡ Some b → (t ≡ false) × (o ≡ Some b)
if_else t o b h = grind arith

-- one of two steps was made
pub either : {A : Type 0} (t : Bool) (x y : Option A) (b : A) → (if t then x else y) ≡ Some b → (x ≡ Some b) ⊎ (y ≡ Some b)
either t x y b h = grind arith

-- two steps, one after the other
pub both : (o : Option Built) (f : Built → Option Built) (b : Built) → then_built o f ≡ Some b → (a : Built) × (o ≡ Some a) × (f a ≡ Some b)
both o f b h = grind arith

-- a search that goes on after its first step, or ends
pub went_on : (rest : Built → Option Built) (o : Option Built) (b : Built) → go_on rest o ≡ Some b → (a : Built) × (o ≡ Some a) × ((a ≡ b) ⊎ (rest a ≡ Some b))
went_on rest o b h = grind arith

-- a copy that isn't ruled out has crossed
pub crossed : (ruled_out : Bool) (o : Option FirstCopy) (place : ℕ) → (ruled_out || not (is_before o place)) ≡ false → (c : FirstCopy) × (o ≡ Some c) × (c.place < place)
crossed ruled_out o place h = grind arith

-- a take
pub record Took (slot q : ℕ) (x : RedundancyPdu) (b b' : Built) : Type 0 where
  pub late : nat_lt q b.next_take ≡ false
  pub allowed : take_fault b.end.params b.end.state b.end.state.clock ≡ None
  pub row : Option TakeRow
  pub is : take_row b.end.params b.end.state x.safety ≡ row
  pub after : taken_by row slot q x b ≡ b'

pub took : (slot q : ℕ) (x : RedundancyPdu) (b b' : Built) → take_step slot q x b ≡ Some b' → Took slot q x b b'
took slot q x b b' h =
    let w = if_else (nat_lt q b.next_take) _ b' h in
    by (take_fault b.end.params b.end.state b.end.state.clock) refl w.0 w.1
  where
    by : (t : Option ℕ) → take_fault b.end.params b.end.state b.end.state.clock ≡ t → nat_lt q b.next_take ≡ false → built_unless t (taken_by (take_row b.end.params b.end.state x.safety) slot q x b) ≡ Some b' → Took slot q x b b'
    by None a l e = record { late = l; allowed = a; row = take_row b.end.params b.end.state x.safety; is = refl; after = cc }
    by (Some f) a l e = absurd (cc)

-- an acceptance
pub record Accepted (sent : List FirstCopy) (slot q : ℕ) (b b' : Built) : Type 0 where
  pub copy : FirstCopy
  pub there : copy_at b.peer.quiet_sn sent q ≡ Some copy
  pub taken : take_step slot q copy.pdu b ≡ Some b'
  pub last : b'.end.state.accepted ≡ suc q

pub accepted : (sent : List FirstCopy) (slot q : ℕ) (b b' : Built) → accept_step sent slot q b ≡ Some b' → Accepted sent slot q b b'
accepted sent slot q b b' h = by (copy_at b.peer.quiet_sn sent q) refl h
  where
    then_by : (c : FirstCopy) → copy_at b.peer.quiet_sn sent q ≡ Some c → (o : Option Built) → take_step slot q c.pdu b ≡ o → if_accepted q o ≡ Some b' → Accepted sent slot q b b'
    then_by c g None e h = absurd (cc)
    then_by c g (Some x) e h =
        let w = if_then (x.end.state.accepted == suc q) (Some x) b' h in
        kept (λ (y : Built). take_step slot q c.pdu b ≡ Some y → Accepted sent slot q b y) w.1 (λ t. record { copy = c; there = g; taken = t; last = was_same x.end.state.accepted (suc q) w.0 }) (rw w.1 at e)

    by : (o : Option FirstCopy) → copy_at b.peer.quiet_sn sent q ≡ o → accept_there slot q o b ≡ Some b' → Accepted sent slot q b b'
    by None g h = absurd (cc)
    by (Some c) g h = then_by c g (take_step slot q c.pdu b) refl h

-- a trial
pub record Tried (sent : List FirstCopy) (slot : ℕ) (made : Kind) (q : ℕ) (b b' : Built) : Type 0 where
  pub copy : FirstCopy
  pub there : copy_at b.peer.quiet_sn sent q ≡ Some copy
  pub crossed : copy.place < slot
  pub taken : (b ≡ b') ⊎ ((is_trigger made copy.pdu.safety.kind ≡ true) × (take_step slot q copy.pdu b ≡ Some b'))

pub tried : (sent : List FirstCopy) (slot : ℕ) (made : Kind) (q : ℕ) (b b' : Built) → try_step sent slot made q b ≡ Some b' → Tried sent slot made q b b'
tried sent slot made q b b' h = by (copy_at b.peer.quiet_sn sent q) refl h
  where
    at : (c : FirstCopy) (t : Bool) → try_at t slot q c.pdu b ≡ Some b' → (b ≡ b') ⊎ ((t ≡ true) × (take_step slot q c.pdu b ≡ Some b'))
    at c true h = inr (refl, h)
    at c false h = inl (cc)

    by : (o : Option FirstCopy) → copy_at b.peer.quiet_sn sent q ≡ o → try_there slot made q b o ≡ Some b' → Tried sent slot made q b b'
    by None g h = absurd (cc)
    by (Some c) g h = (let w = if_then (nat_lt c.place slot) _ b' h in record { copy = c; there = g; crossed = less_is c.place slot w.0; taken = at c (is_trigger made c.pdu.safety.kind) w.1 })
