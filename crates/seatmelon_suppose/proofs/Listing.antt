-- The messages of captured data, one by one.
use Rattle.std.proofs.Common.{◌≡◌, ◌∙◌, ℕ, ◌+◌, ◌<◌, List, [], ◌∷◌, ◌++◌, length, map, get_or, take, Option, ap, sym}
use Rattle.std.specs.List.{cons_option}
use Rattle.std.proofs.lemmas.List.{map_push, take_more}
use Rattle.std.proofs.lemmas.List.Elements.{filter_map-append}
use Rattle.rasta_check.specs.Verdict.Listed.{listed_of}
use Rattle.rasta_check.specs.declared.report.Taken.{Taken}
use Rattle.seatmelon_suppose.specs.Filling.{Adds, captured_message, captured_messages}
use Rattle.seatmelon_suppose.specs.declared.filling.Listed.{Listed}

captured-more : (origins : List (Option ℕ)) (taken : List Taken) (i : ℕ) (d : Taken) → i < length taken
    → captured_messages origins (map listed_of (take (i + 1) taken))
    ≡ captured_messages origins (map listed_of (take i taken)) ++ cons_option (captured_message origins (listed_of (get_or taken i d))) []
captured-more origins taken i d within =
    ap (λ l. captured_messages origins (map listed_of l)) (take_more taken i d within)
    ∙ ap (captured_messages origins) (map_push listed_of (take i taken) (get_or taken i d))
    ∙ filter_map-append (captured_message origins) (map listed_of (take i taken)) (listed_of (get_or taken i d) ∷ [])

pub captured-next : (origins : List (Option ℕ)) (taken : List Taken) (i : ℕ) (d : Taken) (old new : List Listed) → i < length taken
    → old ≡ captured_messages origins (map listed_of (take i taken)) → Adds origins (get_or taken i d) old new
    → new ≡ captured_messages origins (map listed_of (take (i + 1) taken))
captured-next origins taken i d old new within so_far more =
    more.added ∙ ap (λ l. l ++ cons_option (captured_message origins (listed_of (get_or taken i d))) []) so_far ∙ sym (captured-more origins taken i d within)
