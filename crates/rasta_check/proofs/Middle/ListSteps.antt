-- Working out the lags, and the places of proofs: what is left to be done is done at one member more.
use Rattle.std.proofs.Common.{◌≡◌, ℕ, zero, suc, ◌+◌, ◌-◌, ◌<◌, ◌≤◌, Bool, true, false, List, [], ◌∷◌, ◌++◌, length, drop, reverse, Option, Some, None, slice_get, refl, ap, sym, ◌∙◌, subst, add-one}
use Rattle.std.proofs.lemmas.List.{drop_all}
use Rattle.std.proofs.lemmas.Grind.{reverse_onto}
use Rattle.std.specs.Option.{option_flatten}
use Rattle.rasta_end.specs.State.{ahead_by}
use Rattle.rasta_check.specs.Internals.Listing.{with_proofs}
use Rattle.rasta_check.specs.Model.Settled.{is_settled}
use Rattle.rasta_check.proofs.Lists.{drop_one_more, slice_get_some}
use Rattle.rasta_check.specs.declared.sights.Sight.{Sight}
use Rattle.rasta_check.specs.declared.sights.Confirmation.{Confirmation}
use Rattle.rasta_check.specs.Internals.Conveyed.{lag_before, lag_with, lag_ahead, first_lag, lags_of, Rise, up_to, data_among, last_before, is_settled_by, lag_at, lag_through, less_lag, conveyed_through, proofs_by}
use Rattle.rasta_check.proofs.Middle.Rising.{data_rise}
use Rattle.rasta_check.proofs.Middle.Lags.{first_more}

-- ---- lags

pub lag_is : (sights : List Sight) (i : ℕ) (s : Sight) (next : Option Sight) (lag at new : Option ℕ) → slice_get sights i ≡ Some s → next ≡ slice_get sights (i + 1)
    → lag ≡ first_lag (drop (i + 1) sights) → at ≡ lag_with (is_settled s.kind) (lag_ahead s.key next lag) → new ≡ lag_before s.kind at → new ≡ first_lag (drop i sights)
lag_is sights i s next lag at new g e f h k =
    let after : next ≡ slice_get sights (suc i) = (rw add-one at e) in
    let rest : lag ≡ first_lag (drop (suc i) sights) = (rw add-one at f) in
    let now : at ≡ lag_with (is_settled s.kind) (lag_ahead s.key (slice_get sights (suc i)) (first_lag (drop (suc i) sights))) = (let a = after in let b = rest in cc) in
    k ∙ ap (lag_before s.kind) now ∙ sym (first_more sights i s g)

pub lags_end : (sights : List Sight) (n : ℕ) → length sights ≤ n → (None ≡ first_lag (drop n sights)) × ([] ≡ reverse (lags_of (drop n sights)))
unfolding first_lag lags_of
lags_end sights n l = (ap first_lag (sym (drop_all n sights l)), ap (λ (xs : List Sight). reverse (lags_of xs)) (sym (drop_all n sights l)))

pub lags_more : (sights : List Sight) (i : ℕ) (lags : List (Option ℕ)) → i < length sights → lags ≡ reverse (lags_of (drop (suc i) sights))
    → lags ++ first_lag (drop i sights) ∷ [] ≡ reverse (lags_of (drop i sights))
unfolding lags_of
lags_more sights i lags l e =
    let s = slice_get_some sights i l in
    let d : drop i sights ≡ s.0 ∷ drop (suc i) sights = drop_one_more i sights s.0 s.1 in
    ap (λ (ls : List (Option ℕ)). ls ++ first_lag (drop i sights) ∷ []) e
    ∙ ap (λ (xs : List Sight). reverse (lags_of (drop (suc i) sights)) ++ first_lag xs ∷ []) d
    ∙ sym (reverse_onto (lags_of (drop (suc i) sights)) (first_lag (s.0 ∷ drop (suc i) sights)) [])
    ∙ ap (λ (xs : List Sight). reverse (lags_of xs)) (sym d)

pub lag_there : (sights : List Sight) (n : ℕ) → option_flatten (slice_get (lags_of sights) n) ≡ first_lag (drop n sights)
unfolding lags_of first_lag
lag_there [] zero = refl
lag_there [] (suc n) = refl
lag_there (s ∷ sights) zero = refl
lag_there (s ∷ sights) (suc n) = lag_there sights n

-- ---- what is conveyed

pub through_settled : (sights : List Sight) (key n : ℕ) → n ≡ up_to key sights → true ≡ is_settled_by key (last_before n sights) → Some 0 ≡ lag_through sights key
unfolding lag_through
through_settled sights key n e h =
    ap (λ (b : Bool). lag_with b (lag_ahead key (slice_get sights n) (first_lag (drop n sights)))) h ∙ ap (lag_at sights key) e

pub through_ahead : (sights : List Sight) (key n : ℕ) (next : Option Sight) (lag ahead : Option ℕ) → n ≡ up_to key sights → false ≡ is_settled_by key (last_before n sights)
    → next ≡ slice_get sights n → lag ≡ option_flatten (slice_get (lags_of sights) n) → ahead ≡ lag_ahead key next lag → ahead ≡ lag_through sights key
unfolding lag_through
through_ahead sights key n next lag ahead e h g l k =
    k ∙ ap (λ (o : Option Sight). lag_ahead key o lag) g ∙ ap (lag_ahead key (slice_get sights n)) (l ∙ lag_there sights n)
    ∙ ap (λ (b : Bool). lag_with b (lag_ahead key (slice_get sights n) (first_lag (drop n sights)))) h ∙ ap (lag_at sights key) e

pub count_data : (sights data_sights : List Sight) (key n : ℕ) → data_sights ≡ data_among sights → (Rise data_sights → n ≡ up_to key data_sights) → Rise sights
    → n ≡ up_to key (data_among sights)
count_data sights data_sights key n e f r = f (subst Rise (sym e) (data_rise sights r)) ∙ ap (up_to key) e

pub conveyed_some : (sights : List Sight) (key n lag new : ℕ) → n ≡ up_to key (data_among sights) → Some lag ≡ lag_through sights key → new ≡ n - lag → new ≡ conveyed_through sights key
unfolding conveyed_through
conveyed_some sights key n lag new e h k = k ∙ ap (λ m. m - lag) e ∙ ap (less_lag (up_to key (data_among sights))) h

pub conveyed_none : (sights : List Sight) (key : ℕ) → None ≡ lag_through sights key → 0 ≡ conveyed_through sights key
unfolding conveyed_through
conveyed_none sights key h = ap (less_lag (up_to key (data_among sights))) h

-- ---- places of proofs

pub places_more : (base : ℕ) (sights : List Sight) (confirmations : List Confirmation) (i : ℕ) (c : Confirmation) (key shown : ℕ) (places new : List ℕ)
    → slice_get confirmations i ≡ Some c → key ≡ ahead_by c.cs base → shown ≡ conveyed_through sights key → new ≡ with_proofs places shown c.place
    → proofs_by base sights new (drop (i + 1) confirmations) ≡ proofs_by base sights places (drop i confirmations)
unfolding proofs_by
places_more base sights confirmations i c key shown places new g k s e =
    rw add-one (ap (λ (xs : List ℕ). proofs_by base sights xs (drop (suc i) confirmations)) (e ∙ ap (λ n. with_proofs places n c.place) (s ∙ ap (conveyed_through sights) k))
    ∙ ap (proofs_by base sights places) (sym (drop_one_more i confirmations c g)))

pub places_end : (base : ℕ) (sights : List Sight) (confirmations : List Confirmation) (i : ℕ) (places : List ℕ) → length confirmations ≤ i
    → proofs_by base sights places (drop i confirmations) ≡ places
unfolding proofs_by
places_end base sights confirmations i places l = ap (proofs_by base sights places) (drop_all i confirmations l)
