-- A take has an effect exactly where it is by a row.
use Rattle.std.proofs.Common.{◌≡◌, ℕ, ◌<◌, ◌≤◌, Bool, true, List, [], length, Option, Some, None, Result, Ok, Err, refl, ap, sym, ◌∙◌, arith}
use Rattle.rasta_build.proofs.Prelude.{nat_lt, if◌then◌else◌, nat_tests, Parameters, SafetyPdu, RedundancyPdu, Owed, Phase, Closed, TakeRow}
use Rattle.rasta_build.proofs.Prelude.{EndState, is_active, effect, effect_by, take_row, take_fault, after_take, hand_up}
use Rattle.rasta_build.proofs.Prelude.{Built, taken_by, take_step}
use Rattle.std.specs.Prelude.{OnOk}
use Rattle.rasta_check.proofs.Model.TakeRows.{not_closed}
use Rattle.rasta_check.proofs.Model.InvariantOfRuns.{free}
use Rattle.rasta_build.specs.declared.script_builder.Progress.{Progress}
use Rattle.rasta_build.specs.Built.{lead, progress_of, note_take}
use Rattle.rasta_build.proofs.Comparisons.{not_lt}

unit_accepted : (c : Bool) (i : ℕ) (e : EndState) (x : SafetyPdu) → (if c then hand_up i e x else e).accepted ≡ e.accepted
unit_accepted c i e x = grind arith

longer : (os ps : List Owed) → 0 < length ps → os ≡ [] → length ps ≡ length os → ⊥
longer os ps l h k = (let z = ap (λ (l : List Owed). length l) h in omega (arith, z, k, l))

closing : (ph : Phase) → is_active ph ≡ true → Closed ≡ ph → ⊥
closing ph h g = grind arith

moves : (p : Parameters) (e : EndState) (x : SafetyPdu) (row : TakeRow) → take_row p e x ≡ Some row → e.owed ≡ [] → progress_of (effect p row e x) ≡ progress_of e → ⊥
moves p e x row h g k = grind arith

-- a take that changes nothing that is looked at is the whole step
pub take_unmoved : (slot q : ℕ) (x : RedundancyPdu) (b : Built) → b.next_take ≤ q → take_fault b.end.params b.end.state b.end.state.clock ≡ None
    → progress_of (after_take b.end.params b.end.state x.safety) ≡ progress_of b.end.state → take_step slot q x b ≡ Some (lead (after_take b.end.params b.end.state x.safety) b)
take_unmoved slot q x b l f h = by (take_row b.end.params b.end.state x.safety) refl
  where
    by : (o : Option TakeRow) → take_row b.end.params b.end.state x.safety ≡ o → take_step slot q x b ≡ Some (lead (after_take b.end.params b.end.state x.safety) b)
    by None w = (let z = not_lt q b.next_take l in let s : after_take b.end.params b.end.state x.safety ≡ b.end.state = ap (λ (o : Option TakeRow). effect_by b.end.params o b.end.state x.safety) w in
        let left : take_step slot q x b ≡ Some b = rw z (rw f (rw w refl)) in left ∙ ap (λ (g : EndState). Some (lead g b)) (sym s))
    by (Some row) w = absurd (let s : after_take b.end.params b.end.state x.safety ≡ effect b.end.params row b.end.state x.safety = ap (λ (o : Option TakeRow). effect_by b.end.params o b.end.state x.safety) w in
        moves b.end.params b.end.state x.safety row w (free b.end.params b.end.state b.end.state.clock f (not_closed b.end.params b.end.state x.safety row w)) (ap progress_of (sym s) ∙ h))

-- one that changes some of it is noted
pub take_moved : (slot q : ℕ) (x : RedundancyPdu) (b : Built) → b.next_take ≤ q → take_fault b.end.params b.end.state b.end.state.clock ≡ None
    → (progress_of (after_take b.end.params b.end.state x.safety) ≡ progress_of b.end.state → ⊥)
    → take_step slot q x b ≡ Some (note_take (progress_of b.end.state) slot q x (lead (after_take b.end.params b.end.state x.safety) b))
take_moved slot q x b l f h = by (take_row b.end.params b.end.state x.safety) refl
  where
    by : (o : Option TakeRow) → take_row b.end.params b.end.state x.safety ≡ o → take_step slot q x b ≡ Some (note_take (progress_of b.end.state) slot q x (lead (after_take b.end.params b.end.state x.safety) b))
    by None w = absurd (h (ap progress_of (ap (λ (o : Option TakeRow). effect_by b.end.params o b.end.state x.safety) w)))
    by (Some row) w = (let z = not_lt q b.next_take l in let s : after_take b.end.params b.end.state x.safety ≡ effect b.end.params row b.end.state x.safety = ap (λ (o : Option TakeRow). effect_by b.end.params o b.end.state x.safety) w in
        let left : take_step slot q x b ≡ Some (taken_by (Some row) slot q x b) = rw z (rw f (rw w refl)) in
        left ∙ ap (λ (g : EndState). Some (note_take (progress_of b.end.state) slot q x (lead g b))) (sym s))

-- one that is refused is none
pub take_refused : (slot q : ℕ) (x : RedundancyPdu) (b : Built) (fault : ℕ) → take_fault b.end.params b.end.state b.end.state.clock ≡ Some fault → take_step slot q x b ≡ None
take_refused slot q x b fault h = grind arith

pub take_below : (slot q : ℕ) (x : RedundancyPdu) (b : Built) → q < b.next_take → take_step slot q x b ≡ None
take_below slot q x b l = (let z : nat_lt q b.next_take ≡ true = grind (arith, nat_tests) in rw z refl)

-- where what was led is noted, or memory wants
pub take_noted : {A B : Type 0} (r : Result A B) (slot q : ℕ) (x : RedundancyPdu) (b mid new : Built) (before : Progress) → OnOk r (new ≡ note_take before slot q x mid) → before ≡ progress_of b.end.state → b.next_take ≤ q
    → take_fault b.end.params b.end.state b.end.state.clock ≡ None → mid ≡ lead (after_take b.end.params b.end.state x.safety) b → (progress_of mid.end.state ≡ before → ⊥) → OnOk r (take_step slot q x b ≡ Some new)
take_noted (Ok a) slot q x b mid new before n e l f m other =
    let moved : progress_of (after_take b.end.params b.end.state x.safety) ≡ progress_of b.end.state → ⊥ = λ h. other (ap (λ (z : Built). progress_of z.end.state) m ∙ (h ∙ sym e)) in
    let t = take_moved slot q x b l f moved in
    t ∙ ap (λ (z : Built). Some z) (sym (n ∙ (ap (λ (g : Progress). note_take g slot q x mid) e ∙ ap (λ (z : Built). note_take (progress_of b.end.state) slot q x z) m)))
take_noted (Err g) slot q x b mid new before n e l f m other = tt
