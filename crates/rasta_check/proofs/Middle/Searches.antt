-- Searching the sights of a side by their keys.
use Rattle.std.proofs.Common.{◌≡◌, ℕ, ◌-◌, ◌<◌, ◌≤◌, List, length, get_or, Some, slice_get, Result, Ok, Err, IfOk, IfErr, ap, sym, ◌∙◌, arith}
use Rattle.std.specs.List.Sorted.{IsSearchInRange, IsBinarySearchResult, IsNonDecreasingBy}
use Rattle.std.specs.Ordering.{nat_cmp, ordering_index}
use Rattle.std.proofs.lemmas.Cmp.{ranked}
use Rattle.std.proofs.lemmas.Option.{get_or_from_slice_get}
use Rattle.rasta_check.proofs.Prelude.{nat_tests, slice_get_some, slice_get_within, slice_get-get_or, dec_lt, yes, no}
use Rattle.rasta_check.specs.declared.sights.Sight.{Sight}
use Rattle.rasta_check.specs.Internals.Sighting.{HaveOrder, IsGap}
use Rattle.rasta_check.proofs.Middle.SightSteps.{rises}

-- the sight with this key, or the gap where it belongs
abbrev pub IsPlace : List Sight → ℕ → Result ℕ ℕ → Type 0
IsPlace sights key r = IfOk r (λ i. (s : Sight) × (slice_get sights i ≡ Some s) × (s.key ≡ key))
    × IfErr r (λ i. (i ≤ length sights) × (HaveOrder sights → IsGap sights key i))

module _ (sights : List Sight) (key : ℕ) where
  -- the comparisons with the key rise with the keys
  comparisons_rise : HaveOrder sights → IsNonDecreasingBy (λ (s : Sight). ordering_index (nat_cmp s.key key)) sights
  comparisons_rise h i j d l within =
      let a = slice_get-get_or sights i d (omega arith) in
      let b = slice_get-get_or sights j d within in
      elim (dec_lt i j) [
        | yes m ↦ (let lower = rises sights h i j (get_or sights i d) (get_or sights j d) m a b in grind (arith, nat_tests))
        | no m ↦ (let same : i ≡ j = omega arith in let e = ap (λ n. (get_or sights n d).key) same in grind (arith, nat_tests))
      ]

  pub searched : (r : Result ℕ ℕ) → IsSearchInRange r (length sights) → IsBinarySearchResult (λ (s : Sight). nat_cmp s.key key) sights r → IsPlace sights key r
  searched (Ok i) within equal =
      let w = slice_get_some sights i within in
      ((w.0, w.1, ap (λ (s : Sight). s.key) (sym (get_or_from_slice_get sights i w.0 w.0 w.1)) ∙ ranked _ key _ (sym (equal w.0))), tt)
  searched (Err i) within parted = (
    tt,
    (
      within,
      λ h. record {
        within = within;
        below = λ j s g l. (let e = ranked _ key _ (sym ((parted (comparisons_rise h)).0 j s (omega arith) l)) in omega (arith, e, ap (λ (x : Sight). x.key) (get_or_from_slice_get sights j s s g)));
        above = λ j s g l. (let e = ranked _ key _ (sym ((parted (comparisons_rise h)).1 j s l (slice_get_within sights j s g))) in omega (arith, e, ap (λ (x : Sight). x.key) (get_or_from_slice_get sights j s s g)));
      },
    ),
  )

  -- a key above the last belongs at the end
  pub gap_at_end : (last : Sight) → Some last ≡ slice_get sights (length sights - 1) → last.key < key → (length sights ≤ length sights) × (HaveOrder sights → IsGap sights key (length sights))
  gap_at_end last g l = (
    omega arith,
    λ h. record {
      within = omega arith;
      below = λ i s f m. elim (dec_lt i (length sights - 1)) [
        | yes n ↦ omega (arith, rises sights h i (length sights - 1) s last n f (sym g), l)
        | no n ↦ (let same : i ≡ length sights - 1 = omega arith in let e = sym f ∙ ap (slice_get sights) same ∙ sym g in let z : s ≡ last = cc in omega (arith, ap (λ (x : Sight). x.key) z, l))
      ];
      above = λ i s f m. absurd (omega (arith, slice_get_within sights i s f));
    },
  )
