-- What a script in order says of a level, by its first entry.
use Rattle.std.proofs.Common.{◌≡◌, ℕ, suc, ◌<◌, ◌≤◌, Bool, true, false, List, [], ◌∷◌, Option, Some, None, length, ap, subst, sym, ◌∙◌, arith}
use Rattle.std.specs.Prelude.{◌==◌, if◌then◌else◌, IfNone}
use Rattle.std.specs.List.{cons_option}
use Rattle.std.proofs.lemmas.Bool.Decides.{nat_tests}
use Rattle.rasta_end.specs.declared.why.Why.{Why}
use Rattle.rasta_cert.specs.declared.entry.Entry.{Entry}
use Rattle.rasta_cert.specs.declared.entry.Entry.TheVariants.{Take, Make}
use Rattle.rasta_check.specs.Run.Levels.{made_in, makes_at, taken_in, takes_at}
use Rattle.rasta_check.proofs.Run.Entries.{above, below, makes_here, makes_none, makes_other, makes_past, takes_none, takes_other, takes_past}
use Rattle.rasta_verdict.specs.Told.{IsOrderedFrom}

-- ---- below its level a script says nothing

pub takes_below : (at level : ℕ) (es : List Entry) → at < level → IsOrderedFrom level es → takes_at at es ≡ []
takes_below at level [] l o = takes_none at
takes_below at level (Take slot number ∷ es) l o =
    takes_other at slot number es (above at slot (let z = o.0 in omega arith)) ∙ takes_below at slot es (let z = o.0 in omega arith) o.1
takes_below at level (Make index clock why ∷ es) l o =
    takes_past at index clock why es ∙ takes_below at (suc index) es (let z = o.0 in omega arith) o.1

pub makes_below : (at level : ℕ) (es : List Entry) → at < level → IsOrderedFrom level es → makes_at at es ≡ []
makes_below at level [] l o = makes_none at
makes_below at level (Take slot number ∷ es) l o =
    makes_past at slot number es ∙ makes_below at slot es (let z = o.0 in omega arith) o.1
makes_below at level (Make index clock why ∷ es) l o =
    makes_other at index clock why es (above at index (let z = o.0 in omega arith)) ∙ makes_below at (suc index) es (let z = o.0 in omega arith) o.1

-- ---- the first entry says nothing of this level

differs : (low high : ℕ) → low ≤ high → (high == low) ≡ false → low < high
differs low high l e = grind (arith, nat_tests)

no_item : {A : Type 0} (b : Bool) (x : A) → (if b then Some x else None) ≡ None → b ≡ false
no_item b x h = grind arith

-- a script in order that doesn't begin with a take of this level has none
pub no_takes : (level : ℕ) (entry : Entry) (es : List Entry) → IsOrderedFrom level (entry ∷ es) → taken_in level entry ≡ None → takes_at level (entry ∷ es) ≡ []
no_takes level (Take slot number) es o e =
    let other = no_item (slot == level) number e in
    takes_other level slot number es other ∙ takes_below level slot es (differs level slot o.0 other) o.1
no_takes level (Make index clock why) es o e =
    takes_past level index clock why es ∙ takes_below level (suc index) es (let z = o.0 in omega arith) o.1

not_taken : (b : Bool) (number : ℕ) (xs : List ℕ) → cons_option (if b then Some number else None) xs ≡ [] → b ≡ false
not_taken b number xs h = grind arith

not_before : (level slot number : ℕ) (es : List Entry) → takes_at level (Take slot number ∷ es) ≡ [] → (slot == level) ≡ false
unfolding takes_at
not_before level slot number es e = not_taken (slot == level) number (takes_at level es) e

-- one that has none, and doesn't begin with a make of this place, begins above it
pub goes_up : (level : ℕ) (entry : Entry) (es : List Entry) → IsOrderedFrom level (entry ∷ es) → takes_at level (entry ∷ es) ≡ []
    → made_in level entry ≡ None → IsOrderedFrom (suc level) (entry ∷ es)
goes_up level (Take slot number) es o none e = (let z = differs level slot o.0 (not_before level slot number es none) in omega arith, o.1)
goes_up level (Make index clock why) es o none e = (let z = differs level index o.0 (no_item (index == level) (clock, why) e) in omega arith, o.1)

pub no_makes : (level : ℕ) (entry : Entry) (es : List Entry) → IsOrderedFrom level (entry ∷ es) → takes_at level (entry ∷ es) ≡ []
    → made_in level entry ≡ None → makes_at level (entry ∷ es) ≡ []
no_makes level entry es o none e = makes_below level (suc level) (entry ∷ es) (omega arith) (goes_up level entry es o none e)

-- ---- the first entry is of this level

an_item : {A : Type 0} (b : Bool) (x y : A) → (if b then Some x else None) ≡ Some y → (b ≡ true) × (x ≡ y)
an_item b x y h = grind arith

same : (m n : ℕ) → (m == n) ≡ true → m ≡ n
same m n e = grind (arith, nat_tests)

pub is_take : (level number : ℕ) (entry : Entry) → taken_in level entry ≡ Some number → entry ≡ Take level number
is_take level number entry h = grind arith

pub is_make : (place : ℕ) (m : ℕ × Why) (entry : Entry) → made_in place entry ≡ Some m → entry ≡ Make place m.0 m.1
is_make place m entry h = grind arith

-- ---- a script that is seen as its first entry and its rest

pub no_takes_in : (level : ℕ) (es rest : List Entry) (entry : Entry) → es ≡ entry ∷ rest → IsOrderedFrom level es → taken_in level entry ≡ None → takes_at level es ≡ []
no_takes_in level es rest entry e o none = ap (takes_at level) e ∙ no_takes level entry rest (subst (IsOrderedFrom level) e o) none

pub no_takes_empty : (level : ℕ) (es : List Entry) → length es ≡ 0 → takes_at level es ≡ []
no_takes_empty level [] e = takes_none level
no_takes_empty level (x ∷ es) e = absurd (omega (arith, e))

pub no_makes_empty : (place : ℕ) (es : List Entry) → length es ≡ 0 → makes_at place es ≡ []
no_makes_empty place [] e = makes_none place
no_makes_empty place (x ∷ es) e = absurd (omega (arith, e))

module _ (place : ℕ) (es rest : List Entry) (entry : Entry) (is : es ≡ entry ∷ rest) (order : IsOrderedFrom place es) where
  pub goes_up_in : takes_at place es ≡ [] → made_in place entry ≡ None → IsOrderedFrom (suc place) es
  goes_up_in none e = subst (IsOrderedFrom (suc place)) (sym is)
      (goes_up place entry rest (subst (IsOrderedFrom place) is order) (ap (takes_at place) (sym is) ∙ none) e)

  pub no_makes_in : takes_at place es ≡ [] → made_in place entry ≡ None → makes_at place es ≡ []
  no_makes_in none e = makes_below place (suc place) es (omega arith) (goes_up_in none e)

  made_first : (clock : ℕ) (why : Why) → made_in place entry ≡ Some (clock, why) → es ≡ Make place clock why ∷ rest
  made_first clock why e = is ∙ ap (λ (x : Entry). x ∷ rest) (is_make place (clock, why) entry e)

  pub one_make : (clock : ℕ) (why : Why) → made_in place entry ≡ Some (clock, why) → makes_at place es ≡ (clock, why) ∷ []
  one_make clock why e =
      let is' = made_first clock why e in
      let order' : IsOrderedFrom place (Make place clock why ∷ rest) = subst (IsOrderedFrom place) is' order in
      ap (makes_at place) is' ∙ (makes_here place clock why rest ∙ ap (λ (l : List (ℕ × Why)). (clock, why) ∷ l) (makes_below place (suc place) rest (omega arith) order'.1))

  pub same_takes : (clock : ℕ) (why : Why) → made_in place entry ≡ Some (clock, why) → (later : ℕ) → takes_at later rest ≡ takes_at later es
  same_takes clock why e later = sym (ap (takes_at later) (made_first clock why e) ∙ takes_past later place clock why rest)

  pub same_makes : (clock : ℕ) (why : Why) → made_in place entry ≡ Some (clock, why) → (later : ℕ) → place < later → makes_at later rest ≡ makes_at later es
  same_makes clock why e later l = sym (ap (makes_at later) (made_first clock why e) ∙ makes_other later place clock why rest (below place later l))

-- what holds of the state holds where a call found nothing
pub where_none : {A : Type 0} {P : Type 0} (o : Option A) → P → IfNone o P
where_none o h = grind arith
