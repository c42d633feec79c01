-- How many messages are counted, unit by unit.
use Rattle.std.proofs.Common.{◌≡◌, ◌∙◌, ℕ, ◌+◌, ◌-◌, ◌<◌, ◌≤◌, ◌^◌, List, [], ◌∷◌, length, take, get_or, filter, cond, min, sum_by, Bool, true, false, ap, refl, arith}
use Rattle.std.proofs.lemmas.List.{take_all, take_more}
use Rattle.std.proofs.lemmas.List.Elements.{filter-append}
use Rattle.std.proofs.lemmas.List.Sums.{sum_by-append, sum_by_more}
use Rattle.rasta_check.specs.declared.sights.ShownUnit.{ShownUnit}
use Rattle.seatmelon_middle.specs.Counts.{is_taken, messages_captured, messages_of, messages_taken}

module _ (units : List ShownUnit) (i : ℕ) (d : ShownUnit) (count : ℕ) (below : i < length units) where
  abbrev unit : ShownUnit
  unit = get_or units i d

  pub captured_more : count ≡ messages_captured (take i units) → min (count + messages_of unit) (2 ^ 64 - 1) ≡ messages_captured (take (i + 1) units)
  captured_more h = let more = sum_by_more messages_of units i d below in omega (arith, h, more)

  kept_one : (b : Bool) → sum_by messages_of (cond b (unit ∷ []) []) ≡ cond b (messages_of unit) 0
  kept_one true = omega arith
  kept_one false = refl

  taken_by : (b : Bool) → is_taken unit ≡ b
      → sum_by messages_of (filter is_taken (take (i + 1) units)) ≡ sum_by messages_of (filter is_taken (take i units)) + cond b (messages_of unit) 0
  taken_by b e = ap (λ l. sum_by messages_of (filter is_taken l)) (take_more units i d below)
      ∙ ap (sum_by messages_of) (filter-append is_taken (take i units) (unit ∷ []))
      ∙ sum_by-append messages_of (filter is_taken (take i units)) (cond (is_taken unit) (unit ∷ []) [])
      ∙ ap (λ n. sum_by messages_of (filter is_taken (take i units)) + n) (ap (λ c. sum_by messages_of (cond c (unit ∷ []) [])) e ∙ kept_one b)

  pub taken_more : is_taken unit ≡ true → count ≡ messages_taken (take i units) → min (count + messages_of unit) (2 ^ 64 - 1) ≡ messages_taken (take (i + 1) units)
  taken_more e h = let more = taken_by true e in omega (arith, h, more)

  pub taken_same : is_taken unit ≡ false → count ≡ messages_taken (take i units) → count ≡ messages_taken (take (i + 1) units)
  taken_same e h = let same = taken_by false e in omega (arith, h, same)

pub captured_all : (units : List ShownUnit) (i : ℕ) → length units ≤ i → messages_captured (take i units) ≡ messages_captured units
captured_all units i h = ap messages_captured (take_all i units h)

pub taken_all : (units : List ShownUnit) (i : ℕ) → length units ≤ i → messages_taken (take i units) ≡ messages_taken units
taken_all units i h = ap messages_taken (take_all i units h)
