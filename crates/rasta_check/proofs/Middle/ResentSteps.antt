-- Working out which data were sent again, and their proofs: what is left to be done is done at one member more.
use Rattle.std.proofs.Common.{◌≡◌, ℕ, suc, ◌+◌, ◌≤◌, Bool, true, false, ◌&&◌, if◌then◌else◌, List, [], ◌∷◌, length, drop, map, filter_map, Option, Some, None, slice_get, refl, ap, sym, ◌∙◌, add-one}
use Rattle.std.specs.List.{cons_option}
use Rattle.std.proofs.lemmas.List.{drop_all}
use Rattle.rasta_pdu.specs.Pdu.{is_kind}
use Rattle.rasta_pdu.specs.declared.kind.Kind.TheVariants.{RetransmittedData}
use Rattle.rasta_end.specs.State.{ahead_by}
use Rattle.rasta_check.proofs.Lists.{drop_one_more}
use Rattle.rasta_check.specs.declared.sights.Sight.{Sight}
use Rattle.rasta_check.specs.declared.sights.Confirmation.{Confirmation}
use Rattle.rasta_check.specs.declared.resent.Resent.{Resent}
use Rattle.rasta_check.specs.declared.resent.ResentUnit.{ResentUnit}
use Rattle.rasta_check.specs.declared.resent.Settlement.{Settlement}
use Rattle.rasta_check.specs.declared.resent.Standing.{Standing}
use Rattle.rasta_check.specs.Internals.Conveyed.{up_to, data_among, lag_through}
use Rattle.rasta_check.specs.Internals.ResentUnits.{standing_with, standing, if_before_data, is_early, first_sent_before, is_conveyed, first_proof, unit_with, unit_at, resent_with, resent_at, settled_at, first_settled, unit_by}

-- ---- what is settled at an SN

pub standing_none : (sights : List Sight) (key : ℕ) → None ≡ lag_through sights key → None ≡ standing sights key
unfolding standing
standing_none sights key h = ap (standing_with key (up_to key (data_among sights))) h

pub standing_some : (sights : List Sight) (key count lag : ℕ) → count ≡ up_to key (data_among sights) → Some lag ≡ lag_through sights key
    → Some (record { key = key; data_count = count; lag = lag }) ≡ standing sights key
unfolding standing
standing_some sights key count lag e h = ap (λ n. standing_with key n (Some lag)) e ∙ ap (standing_with key (up_to key (data_among sights))) h

-- ---- the first proof

module _ (at : Standing) (settlements : List Settlement) (i : ℕ) where
  pub proof_none : length settlements ≤ i → None ≡ first_settled at (drop i settlements)
  unfolding first_settled
  proof_none l = ap (first_settled at) (sym (drop_all i settlements l))

  by_first : (c : Settlement) (b : Bool) → slice_get settlements i ≡ Some c → b ≡ is_conveyed at c.standing
      → (if b then Some c.place else first_settled at (drop (suc i) settlements)) ≡ first_settled at (drop i settlements)
  unfolding first_settled
  by_first c b g h =
      ap (λ (x : Bool). if x then Some c.place else first_settled at (drop (suc i) settlements)) h
      ∙ ap (first_settled at) (sym (drop_one_more i settlements c g))

  pub proof_here : (c : Settlement) → slice_get settlements i ≡ Some c → true ≡ is_conveyed at c.standing
      → Some c.place ≡ first_settled at (drop i settlements)
  proof_here c g h = by_first c true g h

  pub proof_later : (c : Settlement) → slice_get settlements i ≡ Some c → false ≡ is_conveyed at c.standing
      → first_settled at (drop (i + 1) settlements) ≡ first_settled at (drop i settlements)
  proof_later c g h = rw add-one (by_first c false g h)

-- ---- what is worked out once

module _ (base : ℕ) (sights : List Sight) where
  first_settled_is : (at : Standing) (confirmations : List Confirmation) → first_settled at (map (settled_at base sights) confirmations) ≡ first_proof base sights at confirmations
  unfolding first_settled first_proof
  first_settled_is at [] = refl
  first_settled_is at (c ∷ confirmations) =
      ap (λ (o : Option ℕ). if is_conveyed at (standing sights (ahead_by c.cs base)) then Some c.place else o) (first_settled_is at confirmations)

  module _ (confirmations : List Confirmation) where
    abbrev settled : List Settlement
    settled = map (settled_at base sights) confirmations

    abbrev unit_of : Sight → Option ℕ → ResentUnit
    unit_of s place = record { place = s.place; proof_place = place; messages = s.messages }

    one_unit : (s : Sight) (o : Option Standing) (found : List Resent) (units : List ResentUnit) → map (unit_by settled) found ≡ units
        → map (unit_by settled) (cons_option (resent_with s o) found) ≡ cons_option (unit_with base sights confirmations s o) units
    one_unit s None found units e = e
    one_unit s (Some at) found units e =
        ap (λ (place : Option ℕ). unit_of s place ∷ map (unit_by settled) found) (first_settled_is at confirmations)
        ∙ ap (λ (us : List ResentUnit). unit_of s (first_proof base sights at confirmations) ∷ us) e

    -- the units of such sights are those that are picked one by one
    pub units_picked : (xs : List Sight) → map (unit_by settled) (filter_map (resent_at sights) xs) ≡ filter_map (unit_at base sights confirmations) xs
    units_picked [] = refl
    units_picked (s ∷ xs) = one_unit s (first_sent_before sights s) (filter_map (resent_at sights) xs) (filter_map (unit_at base sights confirmations) xs) (units_picked xs)

-- ---- sights of other types

not_resent : (sights : List Sight) (s : Sight) → is_kind RetransmittedData s.kind ≡ false → resent_at sights s ≡ None
unfolding first_sent_before
not_resent sights s h =
    ap (λ (b : Bool). resent_with s (if b && is_early sights s.key then if_before_data (standing sights s.key) else None)) h

pub passed_over : (sights : List Sight) (i : ℕ) (s : Sight) → slice_get sights i ≡ Some s → is_kind RetransmittedData s.kind ≡ false
    → filter_map (resent_at sights) (drop (i + 1) sights) ≡ filter_map (resent_at sights) (drop i sights)
passed_over sights i s g h =
    rw add-one (ap (λ (o : Option Resent). cons_option o (filter_map (resent_at sights) (drop (suc i) sights))) (sym (not_resent sights s h))
    ∙ ap (filter_map (resent_at sights)) (sym (drop_one_more i sights s g)))
