-- What the rest of a script that fits says of later levels.
use Rattle.std.proofs.Common.{◌≡◌, ℕ, ◌<◌, ◌≤◌, List, [], ◌∷◌, length, Some, slice_get, refl, ap, ◌∙◌, arith}
use Rattle.rasta_check.proofs.Prelude.{slice_get_within, dec_lt, yes, no, Side, Parameters, Entry, Take, Make, Why, FirstCopy, Station, ScriptCursor, takes_next, makes_next, Leads}
use Rattle.rasta_check.proofs.Prelude.{takes_at, makes_at}
use Rattle.rasta_check.proofs.Script.Tracks.{Tracks}
use Rattle.rasta_check.proofs.Run.Entries.{above, below, makes_none, makes_other, makes_past, takes_none, takes_other, takes_past}

-- the level of an entry
abbrev pub place_of : Entry → ℕ
place_of (Take slot number) = slot
place_of (Make place clock why) = place

-- no entry lies below this level
abbrev pub Above : ℕ → List Entry → Type 0
Above k [] = Unit {0}
Above k (x ∷ es) = (k ≤ place_of x) × Above k es

pub lead_above : (p : Parameters) (n k : ℕ) (own peer : List FirstCopy) (u v : ScriptCursor) (es : List Entry) → Leads p n own peer u es v → k ≤ u.level → Above k es
lead_above p n k own peer u v [] f l = tt
lead_above p n k own peer u v (x ∷ es) (m, takes_next slot position d e lv le there below above t, r) l = (omega (arith, l, lv), lead_above p n k own peer _ v es r (omega (arith, l, lv)))
lead_above p n k own peer u v (x ∷ es) (m, makes_next d clock why e lv mine mk, r) l = (omega (arith, l, lv), lead_above p n k own peer _ v es r (omega (arith, l, lv)))

-- then no PDU that is still to be made crosses below
pub places_above : (p : Parameters) (n k : ℕ) (own peer : List FirstCopy) (u v : ScriptCursor) (es : List Entry) → Leads p n own peer u es v → v.made_count ≡ length own → Above k es
    → (i : ℕ) (c : FirstCopy) → slice_get own i ≡ Some c → u.made_count ≤ i → k ≤ c.place
places_above p n k own peer u v [] f w o i c g l = absurd (let z = slice_get_within own i c g in let e = ap (λ (z : ScriptCursor). z.made_count) f in omega (arith, z, e, w, l))
places_above p n k own peer u v (x ∷ es) (m, takes_next slot position d e lv le there below above t, r) w o i c g l = places_above p n k own peer _ v es r w o.1 i c g l
places_above p n k own peer u v (x ∷ es) (m, makes_next d clock why e lv mine mk, r) w o i c g l =
    elim (dec_lt u.made_count i) [
      | yes q ↦ places_above p n k own peer _ v es r w o.1 i c g (omega arith)
      | no q ↦ (let at : u.made_count ≡ i = omega (arith, l, q) in grind (arith, o.0))
    ]

pub no_takes : (at level : ℕ) (es : List Entry) → at < level → Above level es → takes_at at es ≡ []
no_takes at level [] l o = takes_none at
no_takes at level (Take slot number ∷ es) l o = takes_other at slot number es (above at slot (let z = o.0 in omega arith)) ∙ no_takes at level es l o.1
no_takes at level (Make index clock why ∷ es) l o = takes_past at index clock why es ∙ no_takes at level es l o.1

pub no_makes : (at level : ℕ) (es : List Entry) → at < level → Above level es → makes_at at es ≡ []
no_makes at level [] l o = makes_none at
no_makes at level (Take slot number ∷ es) l o = makes_past at slot number es ∙ no_makes at level es l o.1
no_makes at level (Make index clock why ∷ es) l o = makes_other at index clock why es (above at index (let z = o.0 in omega arith)) ∙ no_makes at level es l o.1

-- a script says what its rest says: of takes from this level on, and of makes from this place on
pub record Says (level place : ℕ) (whole es : List Entry) : Type 0 where
  pub takes : (j : ℕ) → level ≤ j → takes_at j whole ≡ takes_at j es
  pub makes : (j : ℕ) → place ≤ j → makes_at j whole ≡ makes_at j es

pub says_all : (level place : ℕ) (es : List Entry) → Says level place es es
says_all level place es = record { takes = λ j l. refl; makes = λ j l. refl }

pub says_on : {level place level' place' : ℕ} {whole mid es : List Entry} → Says level place whole mid → Says level' place' mid es → level ≤ level' → place ≤ place' → Says level' place' whole es
says_on a b l m = record { takes = λ j n. a.takes j (omega (arith, l, n)) ∙ b.takes j n; makes = λ j n. a.makes j (omega (arith, m, n)) ∙ b.makes j n }

-- all but an entry says of later levels what the whole says
pub says_take : (level place slot number : ℕ) (es : List Entry) → slot < level → Says level place (Take slot number ∷ es) es
says_take level place slot number es l = record { takes = λ j n. takes_other j slot number es (below slot j (omega (arith, l, n))); makes = λ j n. makes_past j slot number es }

pub says_make : (level place index clock : ℕ) (why : Why) (es : List Entry) → index < place → Says level place (Make index clock why ∷ es) es
says_make level place index clock why es l = record { takes = λ j n. takes_past j index clock why es; makes = λ j n. makes_other j index clock why es (below index j (omega (arith, l, n))) }

-- ---- one side at a level

-- what is left of a script, in this state, says what the whole says: of takes from a level on, and of makes from a place on
pub record Left (p : Parameters) (n k : ℕ) (s : Side) (own peer : List FirstCopy) (last : ScriptCursor) (Ready : List Entry → Type 0) (level place : ℕ) (whole : List Entry) (a : Station) : Type 0 where
  pub rest : List Entry
  pub tracks : Tracks p n k s own peer rest last a
  pub ready : Ready rest
  pub says : Says level place whole rest

pub left_on : {p : Parameters} {n k : ℕ} {s : Side} {own peer : List FirstCopy} {last : ScriptCursor} {Ready : List Entry → Type 0} {level place level' place' : ℕ} {whole mid : List Entry} {a : Station}
    → Says level place whole mid → level ≤ level' → place ≤ place' → Left p n k s own peer last Ready level' place' mid a → Left p n k s own peer last Ready level' place' whole a
left_on says l m h = record { rest = h.rest; tracks = h.tracks; ready = h.ready; says = says_on says h.says l m }
