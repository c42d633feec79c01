-- A binary search by key finds how many sights lie up to it.
use Rattle.std.proofs.Common.{◌≡◌, ℕ, suc, ◌<◌, ◌≤◌, true, false, nat_le, List, length, Some, None, slice_get, get_or, ap, arith, inl, inr}
use Rattle.std.proofs.lemmas.Bool.{cases_lt}
use Rattle.std.proofs.lemmas.Bool.Decides.{nat_tests}
use Rattle.std.proofs.lemmas.Option.{slice_get-get_or}
use Rattle.std.specs.List.Sorted.{IsPartitionedBy, IsPartitionPoint}
use Rattle.rasta_check.proofs.Lists.{slice_get_some}
use Rattle.rasta_check.specs.declared.sights.Sight.{Sight}
use Rattle.rasta_check.specs.Internals.Conveyed.{Rise, up_to}
use Rattle.rasta_check.proofs.Middle.Rising.{up_to_low, up_to_high, up_to_within, up_to_below}

pub le_true : (a b : ℕ) → a ≤ b → nat_le a b ≡ true
le_true a b h = grind (arith, nat_tests)

pub true_le : (a b : ℕ) → nat_le a b ≡ true → a ≤ b
true_le a b h = grind (arith, nat_tests)

false_lt : (a b : ℕ) → nat_le a b ≡ false → b < a
false_lt a b h = grind (arith, nat_tests)

pub rise_parted : (key : ℕ) (sights : List Sight) → Rise sights → IsPartitionedBy (λ (s : Sight). nat_le s.key key) sights
rise_parted key sights r i j d l m up =
    elim (cases_lt i j) [
      | inl less ↦
          let rise = r.apart i j (get_or sights i d) (get_or sights j d) less (slice_get-get_or sights i d (omega arith)) (slice_get-get_or sights j d m) in
          le_true (get_or sights i d).key key (omega (arith, rise, true_le (get_or sights j d).key key up))
      | inr same ↦
          let e : j ≡ i = omega arith in
          let keys : (get_or sights j d).key ≡ (get_or sights i d).key = ap (λ k. (get_or sights k d).key) e in
          le_true (get_or sights i d).key key (omega (arith, keys, true_le (get_or sights j d).key key up))
    ]

pub point_is_count : (key : ℕ) (sights : List Sight) (n : ℕ) → n ≤ length sights
    → IsPartitionPoint (λ (s : Sight). nat_le s.key key ≡ true) (λ (s : Sight). nat_le s.key key ≡ false) sights n → Rise sights → n ≡ up_to key sights
point_is_count key sights n l point r =
    elim (cases_lt n (up_to key sights)) [
      | inl less ↦
          let s = slice_get_some sights n (omega (arith, less, up_to_within key sights)) in
          let at = slice_get-get_or sights n s.0 (omega (arith, less, up_to_within key sights)) in
          absurd (omega (arith, up_to_low key sights n (get_or sights n s.0) at less, false_lt (get_or sights n s.0).key key (point.1 n s.0 (omega arith) (omega (arith, less, up_to_within key sights)))))
      | inr more ↦ elim (cases_lt (up_to key sights) n) [
        | inl above ↦
            let k : ℕ = up_to key sights in
            let s = slice_get_some sights k (omega (arith, above)) in
            let at = slice_get-get_or sights k s.0 (omega (arith, above)) in
            absurd (omega (arith, up_to_high key sights k (get_or sights k s.0) r at (true_le (get_or sights k s.0).key key (point.0 k s.0 (omega arith) above))))
        | inr same ↦ omega arith
      ]
    ]

-- ---- so many sights, by those on both sides

pub reached_at : (key count last : ℕ) (sights : List Sight) (s : Sight) → count ≤ suc last → slice_get sights last ≡ Some s → s.key ≤ key → Rise sights → count ≤ up_to key sights
reached_at key count last sights s l g h r = omega (arith, l, up_to_high key sights last s r g h)

pub passed_at : (key count : ℕ) (sights : List Sight) (s : Sight) → slice_get sights count ≡ Some s → key < s.key → up_to key sights ≤ count
passed_at key count sights s g h = up_to_below key sights count s g h

pub passed_end : (key count : ℕ) (sights : List Sight) → slice_get sights count ≡ None → up_to key sights ≤ count
passed_end key count sights g = elim (cases_lt count (length sights)) [
  | inl less ↦ (let s = slice_get_some sights count less in absurd (cc))
  | inr more ↦ omega (arith, more, up_to_within key sights)
]
