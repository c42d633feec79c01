-- Where a packet was captured, or the next one.
use Rattle.std.proofs.Common.{◌≡◌, ◌∙◌, ℕ, ◌+◌, ◌<◌, List, [], ◌∷◌, ◌++◌, length, get_or, take, drop, Option, Some, None, slice_get, unwrap_or, filter_map, ap, sym, take-append-drop}
use Rattle.std.proofs.lemmas.List.{drop_more, take_more}
use Rattle.std.proofs.lemmas.List.Elements.{filter_map-append}
use Rattle.seatmelon_suppose.specs.Filling.{captured, first_captured}

abbrev pub places : List (Option ℕ) → List ℕ
places origins = filter_map captured origins

abbrev first_place : List ℕ → ℕ
first_place all = unwrap_or (slice_get all 0) 0

-- one more that wasn't captured
pub none-more : (origins : List (Option ℕ)) (i : ℕ) (d : Option ℕ) → i < length origins → get_or origins i d ≡ None → places (take i origins) ≡ []
    → places (take (i + 1) origins) ≡ []
none-more origins i d within is none =
    ap places (take_more origins i d within ∙ ap (λ (o : Option ℕ). take i origins ++ o ∷ []) is)
    ∙ filter_map-append captured (take i origins) (None ∷ []) ∙ ap (λ l. l ++ []) none

-- one at last that was
pub place-found : (origins : List (Option ℕ)) (i place : ℕ) (d : Option ℕ) → i < length origins → get_or origins i d ≡ Some place → places (take i origins) ≡ []
    → first_captured origins ≡ place
place-found origins i place d within is none =
    let rest = drop (i + 1) origins in
    let parts : origins ≡ take i origins ++ Some place ∷ rest =
    sym (take-append-drop i origins) ∙ ap (λ l. take i origins ++ l) (drop_more origins i d within ∙ ap (λ (o : Option ℕ). o ∷ rest) is) in
    ap first_captured parts
    ∙ ap first_place (filter_map-append captured (take i origins) (Some place ∷ rest) ∙ ap (λ l. l ++ places (Some place ∷ rest)) none)
