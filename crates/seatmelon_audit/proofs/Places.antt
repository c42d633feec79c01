-- The connection at one place of all.
use Rattle.std.proofs.Common.{◌≡◌, ◌∙◌, ◌⊎◌, inl, inr, ⊎_elim, ℕ, ◌<◌, ◌≤◌, List, [], ◌∷◌, length, get_or, slice_get, Option, Some, Bool, true, false, ltb, nat_eq, ap, refl, sym, arith}
use Rattle.std.proofs.lemmas.Bool.{ltb-true, ltb-false}
use Rattle.std.proofs.lemmas.Bool.Decides.{nat_tests}
use Rattle.std.proofs.lemmas.List.{get_or-set_same, get_or-set_other, length-map, length-set}
use Rattle.std.proofs.lemmas.Option.{slice_get-get_or}
use Rattle.std.proofs.Math.Seq.{map-set_same}
use Rattle.rasta_pdu.specs.Params.{Parameters}
use Rattle.rasta_check.proofs.Lists.{map_at}
use Rattle.seatmelon_audit.specs.Lines.{IsChangedAt, params_of}
use Rattle.seatmelon_audit.specs.declared.line.Line.{Line}

same_by : (a b : ℕ) (t : Bool) → nat_eq a b ≡ t → (a ≡ b) ⊎ (a ≡ b → ⊥)
same_by a b true e = inl (grind (arith, nat_tests, e))
same_by a b false e = inr (λ h. grind (arith, nat_tests, e, h))

pub same_or_other : (a b : ℕ) → (a ≡ b) ⊎ (a ≡ b → ⊥)
same_or_other a b = same_by a b (nat_eq a b) refl

less_by : (a b : ℕ) (t : Bool) → ltb a b ≡ t → (a < b) ⊎ (b ≤ a)
less_by a b true e = inl (ltb-true a b e)
less_by a b false e = inr (ltb-false a b e)

pub less_or_not : (a b : ℕ) → (a < b) ⊎ (b ≤ a)
less_or_not a b = less_by a b (ltb a b) refl

module _ {Changes : Line → Line → Type 0} (place : ℕ) (old new : List Line) (step : IsChangedAt Changes place old new) where
  length_by : (l : List Line) → place < length old → l ≡ old → length new ≡ length old
  length_by [] inside e = absurd (let none : length old ≡ 0 = ap length (sym e) in omega (arith, inside, none))
  length_by (d ∷ ds) inside e = let h = step.here d inside in ap length h.1 ∙ length-set old place h.0

  pub length_changed : length new ≡ length old
  length_changed = ⊎_elim
      (λ (inside : place < length old). length_by old inside refl)
      (λ (past : length old ≤ place). ap length (step.past past))
      (less_or_not place (length old))

  pub at_changed : (d : Line) → (inside : place < length old) → get_or new place d ≡ (step.here d inside).0
  at_changed d inside = let h = step.here d inside in ap (λ l. get_or l place d) h.1 ∙ get_or-set_same old place h.0 d inside

  pub elsewhere : (i : ℕ) (d : Line) → (i ≡ place → ⊥) → get_or new i d ≡ get_or old i d
  elsewhere i d other = ⊎_elim
      (λ (inside : place < length old). let h = step.here d inside in ap (λ l. get_or l i d) h.1 ∙ get_or-set_other old place i h.0 d other)
      (λ (past : length old ≤ place). ap (λ l. get_or l i d) (step.past past))
      (less_or_not place (length old))

  params_by : ((a b : Line) → Changes a b → b.params ≡ a.params) → (l : List Line) → place < length old → l ≡ old → params_of new ≡ params_of old
  params_by kept [] inside e = absurd (let none : length old ≡ 0 = ap length (sym e) in omega (arith, inside, none))
  params_by kept (d ∷ ds) inside e =
      let h = step.here d inside in ap params_of h.1 ∙ map-set_same (λ (l : Line). l.params) old place h.0 d (kept (get_or old place d) h.0 h.2)

  pub params_changed : ((a b : Line) → Changes a b → b.params ≡ a.params) → params_of new ≡ params_of old
  params_changed kept = ⊎_elim
      (λ (inside : place < length old). params_by kept old inside refl)
      (λ (past : length old ≤ place). ap params_of (step.past past))
      (less_or_not place (length old))

-- ---- the parameters at a place

pub same_some : (p q : Parameters) → ◌≡◌ {A = Option Parameters} (Some p) (Some q) → p ≡ q
same_some p q e = cc

pub params_at : (lines : List Line) (i : ℕ) (d : Line) → i < length lines → slice_get (params_of lines) i ≡ Some (get_or lines i d).params
params_at lines i d inside = map_at (λ (l : Line). l.params) lines i (get_or lines i d) (slice_get-get_or lines i d inside)

pub same_at : (a b : List Line) → params_of a ≡ params_of b → (i : ℕ) (d : Line) → i < length a → i < length b → (get_or a i d).params ≡ (get_or b i d).params
same_at a b e i d x y = same_some _ _ (sym (params_at a i d x) ∙ ap (λ (ps : List Parameters). slice_get ps i) e ∙ params_at b i d y)

pub same_count : (a b : List Line) → params_of a ≡ params_of b → length a ≡ length b
same_count a b e = sym (length-map a (λ (l : Line). l.params)) ∙ ap length e ∙ length-map b (λ (l : Line). l.params)
