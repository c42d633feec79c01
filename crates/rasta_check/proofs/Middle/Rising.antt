-- Sights whose keys rise: those up to a key, and the data among them.
use Rattle.std.proofs.Common.{◌≡◌, ℕ, zero, suc, ◌<◌, ◌≤◌, Bool, true, false, cond, nat_le, if◌then◌else◌, List, [], ◌∷◌, length, Some, slice_get, refl, ap, sym, ◌∙◌, arith, inl, inr, ◌⊎◌}
use Rattle.std.proofs.lemmas.Bool.{cases_lt}
use Rattle.std.proofs.lemmas.Bool.Decides.{nat_tests}
use Rattle.std.proofs.lemmas.Option.{slice_get_within}
use Rattle.rasta_check.proofs.Lists.{slice_get_some}
use Rattle.rasta_check.specs.declared.sights.Sight.{Sight}
use Rattle.rasta_check.specs.Internals.Conveyed.{Rise, up_to, is_data, data_among}

-- ---- keys that rise

-- keys rise where each is below the next
pub rise_along : (sights : List Sight) → ((i : ℕ) (s next : Sight) → slice_get sights i ≡ Some s → slice_get sights (suc i) ≡ Some next → s.key < next.key) → Rise sights
rise_along sights h = record { apart = along }
  where
    along : (i j : ℕ) (s t : Sight) → i < j → slice_get sights i ≡ Some s → slice_get sights j ≡ Some t → s.key < t.key
    along i zero s t l a b = absurd (omega arith)
    along i (suc j) s t l a b =
        elim (cases_lt i j) [
          | inl less ↦
              let u = slice_get_some sights j (omega (arith, slice_get_within sights (suc j) t b)) in
              omega (arith, along i j s u.0 less a u.1, h j u.0 t u.1 b)
          | inr same ↦ (let e : i ≡ j = omega arith in h i s t a (ap (λ n. slice_get sights (suc n)) e ∙ b))
        ]

pub rest_rises : (x : Sight) (sights : List Sight) → Rise (x ∷ sights) → Rise sights
rest_rises x sights r = record { apart = λ i j s t l a b. r.apart (suc i) (suc j) s t (omega arith) a b }

-- the sights of rising keys are in their order
pub in_order : (sights : List Sight) (i j : ℕ) (s t : Sight) → Rise sights → slice_get sights i ≡ Some s → slice_get sights j ≡ Some t → s.key < t.key → i < j
in_order sights i j s t r a b l =
    elim (cases_lt i j) [
      | inl less ↦ less
      | inr more ↦ elim (cases_lt j i) [
        | inl above ↦ absurd (omega (arith, r.apart j i t s above b a))
        | inr same ↦
            let e : i ≡ j = omega arith in
            let both : Some s ≡ Some t = sym a ∙ ap (slice_get sights) e ∙ b in
            let one : s ≡ t = cc in
            let keys : s.key ≡ t.key = ap (λ (x : Sight). x.key) one in
            absurd (omega (arith, keys, l))
      ]
    ]

pub same_place : (sights : List Sight) (i j : ℕ) (s t : Sight) → Rise sights → slice_get sights i ≡ Some s → slice_get sights j ≡ Some t → s.key ≡ t.key → i ≡ j
same_place sights i j s t r a b e =
    elim (cases_lt i j) [
      | inl less ↦ absurd (omega (arith, e, r.apart i j s t less a b))
      | inr more ↦ elim (cases_lt j i) [
        | inl above ↦ absurd (omega (arith, e, r.apart j i t s above b a))
        | inr same ↦ omega arith
      ]
    ]

-- ---- sights up to a key

pub up_to_low : (key : ℕ) (sights : List Sight) (i : ℕ) (s : Sight) → slice_get sights i ≡ Some s → i < up_to key sights → s.key ≤ key
unfolding up_to
up_to_low key [] i s g l = absurd (omega arith)
up_to_low key (x ∷ sights) zero s g l =
    let same : x ≡ s = cc in
    let first : x.key ≤ key = first_low x.key key (up_to key sights) l in
    omega (arith, first, ap (λ (y : Sight). y.key) same)
  where
    first_low : (n key more : ℕ) → 0 < (if nat_le n key then suc more else 0) → n ≤ key
    first_low n key more h = grind (arith, nat_tests)
up_to_low key (x ∷ sights) (suc i) s g l = up_to_low key sights i s g (more_low x.key key (up_to key sights) i l)
  where
    more_low : (n key more i : ℕ) → suc i < (if nat_le n key then suc more else 0) → i < more
    more_low n key more i h = grind (arith, nat_tests)

pub up_to_high : (key : ℕ) (sights : List Sight) (i : ℕ) (s : Sight) → Rise sights → slice_get sights i ≡ Some s → s.key ≤ key → i < up_to key sights
unfolding up_to
up_to_high key [] i s r g l = absurd (omega (arith, slice_get_within [] i s g))
up_to_high key (x ∷ sights) zero s r g l =
    let same : x ≡ s = cc in
    high x.key key (up_to key sights) (omega (arith, l, ap (λ (y : Sight). y.key) same))
  where
    high : (n key more : ℕ) → n ≤ key → 0 < (if nat_le n key then suc more else 0)
    high n key more h = grind (arith, nat_tests)
up_to_high key (x ∷ sights) (suc i) s r g l =
    higher x.key key (up_to key sights) i (omega (arith, l, r.apart 0 (suc i) x s (omega arith) refl g)) (up_to_high key sights i s (rest_rises x sights r) g l)
  where
    higher : (n key more i : ℕ) → n ≤ key → i < more → suc i < (if nat_le n key then suc more else 0)
    higher n key more i h l = grind (arith, nat_tests)

pub up_to_within : (key : ℕ) (sights : List Sight) → up_to key sights ≤ length sights
unfolding up_to
up_to_within key [] = omega arith
up_to_within key (x ∷ sights) = within x.key key (up_to key sights) (length sights) (up_to_within key sights)
  where
    within : (n key more all : ℕ) → more ≤ all → (if nat_le n key then suc more else 0) ≤ suc all
    within n key more all h = grind (arith, nat_tests)

-- more have keys up to a later key
pub up_to_more : (a b : ℕ) (sights : List Sight) → a ≤ b → up_to a sights ≤ up_to b sights
unfolding up_to
up_to_more a b [] l = omega arith
up_to_more a b (x ∷ sights) l = more x.key a b (up_to a sights) (up_to b sights) l (up_to_more a b sights l)
  where
    more : (n a b m k : ℕ) → a ≤ b → m ≤ k → (if nat_le n a then suc m else 0) ≤ (if nat_le n b then suc k else 0)
    more n a b m k l h = grind (arith, nat_tests)

-- those up to a key lie before a sight behind it
pub up_to_below : (key : ℕ) (sights : List Sight) (i : ℕ) (s : Sight) → slice_get sights i ≡ Some s → key < s.key → up_to key sights ≤ i
up_to_below key sights i s g l =
    elim (cases_lt i (up_to key sights)) [
      | inl more ↦ absurd (omega (arith, l, up_to_low key sights i s g more))
      | inr less ↦ less
    ]

-- where a sight has this key, it is the last up to it
pub up_to_own : (key : ℕ) (sights : List Sight) (i : ℕ) (s : Sight) → Rise sights → slice_get sights i ≡ Some s → s.key ≡ key → up_to key sights ≡ suc i
up_to_own key sights i s r g e =
    let low : i < up_to key sights = up_to_high key sights i s r g (omega (arith, e)) in
    elim (cases_lt (suc i) (up_to key sights)) [
      | inl more ↦
          let next = slice_get_some sights (suc i) (omega (arith, more, up_to_within key sights)) in
          absurd (omega (arith, e, up_to_low key sights (suc i) next.0 next.1 more, r.apart i (suc i) s next.0 (omega arith) g next.1))
      | inr less ↦ omega (arith, low)
    ]

-- and where one has the next key, it is the first beyond it
pub up_to_next : (key : ℕ) (sights : List Sight) (i : ℕ) (s : Sight) → Rise sights → slice_get sights i ≡ Some s → s.key ≡ suc key → up_to key sights ≡ i
up_to_next key sights i s r g e =
    elim (cases_lt i (up_to key sights)) [
      | inl more ↦ absurd (omega (arith, e, up_to_low key sights i s g more))
      | inr less ↦ elim (cases_lt (up_to key sights) i) [
        | inl before ↦
            let other = slice_get_some sights (up_to key sights) (omega (arith, before, slice_get_within sights i s g)) in
            let below : other.0.key < s.key = r.apart (up_to key sights) i other.0 s before other.1 g in
            absurd (omega (arith, up_to_high key sights (up_to key sights) other.0 r other.1 (omega (arith, below, e))))
        | inr same ↦ omega arith
      ]
    ]

-- ---- the data among them

-- a member of the list with one more is that one, or a member of the list
kept_cases : (b : Bool) (x : Sight) (sights : List Sight) (k : ℕ) (d : Sight) → slice_get (cond b (x ∷ sights) sights) k ≡ Some d
    → ((k ≡ 0) × (b ≡ true) × (x ≡ d)) ⊎ ((j : ℕ) × (slice_get sights j ≡ Some d) × (k ≡ cond b (suc j) j))
kept_cases false x sights k d g = inr (k, g, refl)
kept_cases true x sights zero d g = inl (refl, refl, (cc))
kept_cases true x sights (suc k) d g = inr (k, g, refl)

kept_first : (b : Bool) (x : Sight) (sights : List Sight) → b ≡ true → slice_get (cond b (x ∷ sights) sights) 0 ≡ Some x
kept_first false x sights e = absurd (cc)
kept_first true x sights e = refl

kept_rest : (b : Bool) (x : Sight) (sights : List Sight) (k : ℕ) (d : Sight) → slice_get sights k ≡ Some d → slice_get (cond b (x ∷ sights) sights) (cond b (suc k) k) ≡ Some d
kept_rest false x sights k d g = g
kept_rest true x sights k d g = g

kept_order : (b : Bool) (i j : ℕ) → cond b (suc i) i < cond b (suc j) j → i < j
kept_order false i j l = l
kept_order true i j l = omega arith

pub data_at : (sights : List Sight) (k : ℕ) (d : Sight) → slice_get (data_among sights) k ≡ Some d → (i : ℕ) × (slice_get sights i ≡ Some d) × (is_data d ≡ true)
data_at [] k d g = absurd (omega (arith, slice_get_within [] k d g))
data_at (x ∷ sights) k d g =
    elim (kept_cases (is_data x) x (data_among sights) k d g) [
      | inl first ↦ (0, ap Some first.2, ap is_data (sym first.2) ∙ first.1)
      | inr rest ↦ (let m = data_at sights rest.0 d rest.1 in (suc m.0, m.1, m.2))
    ]

pub data_kept : (sights : List Sight) (i : ℕ) (d : Sight) → slice_get sights i ≡ Some d → is_data d ≡ true → (k : ℕ) × (slice_get (data_among sights) k ≡ Some d)
data_kept [] i d g h = absurd (omega (arith, slice_get_within [] i d g))
data_kept (x ∷ sights) zero d g h =
    let same : x ≡ d = cc in
    (0, kept_first (is_data x) x (data_among sights) (ap is_data same ∙ h) ∙ g)
data_kept (x ∷ sights) (suc i) d g h =
    let m = data_kept sights i d g h in
    (cond (is_data x) (suc m.0) m.0, kept_rest (is_data x) x (data_among sights) m.0 d m.1)

pub data_rise : (sights : List Sight) → Rise sights → Rise (data_among sights)
data_rise [] r = record { apart = λ i j s t l a b. absurd (omega (arith, slice_get_within [] i s a)) }
data_rise (x ∷ sights) r = record {
  apart = λ i j s t l a b.
      let more = data_rise sights (rest_rises x sights r) in
      elim (kept_cases (is_data x) x (data_among sights) j t b) [
        | inl none ↦ absurd (omega (arith, none.0, l))
        | inr last ↦ elim (kept_cases (is_data x) x (data_among sights) i s a) [
          | inl first ↦
              let m = data_at sights last.0 t last.1 in
              omega (arith, ap (λ (y : Sight). y.key) first.2, r.apart 0 (suc m.0) x t (omega arith) refl m.1)
          | inr both ↦ more.apart both.0 last.0 s t (kept_order (is_data x) both.0 last.0 (omega (arith, l, both.2, last.2))) both.1 last.1
        ]
      ];
}
