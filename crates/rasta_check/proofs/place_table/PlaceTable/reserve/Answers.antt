use Rattle.std.proofs.Common.{◌≡◌, ◌∙◌, ◌++◌, ◌≤◌, ℕ, zero, suc, List, [], ◌∷◌, None, length, take, refl, ap, arith}
use Rattle.std.proofs.Math.ListN.{replicate}
use Rattle.std.proofs.lemmas.List.{take_all}
use Rattle.rasta_check.specs.Capture.Lists.{marked}
use Rattle.rasta_check.proofs.place_table.PlaceTable.reserve.Goals as goal

-- zeros mark nothing
unmarked : (n q : ℕ) → marked (replicate n 0) q ≡ None
unmarked zero q = refl
unmarked (suc n) zero = refl
unmarked (suc n) (suc q) = unmarked n q

filled : (marks : List ℕ) (n q : ℕ) → marked (marks ++ replicate n 0) q ≡ marked marks q
filled [] n q = unmarked n q
filled (x ∷ marks) n zero = refl
filled (x ∷ marks) n (suc q) = filled marks n q

grown : (old new : List ℕ) (n m : ℕ) → length old ≤ n → new ≡ take n old ++ replicate m 0 → (q : ℕ) → marked new q ≡ marked old q
grown old new n m h e q =
    ap (λ l. marked l q) (e ∙ ap (λ l. l ++ replicate m 0) (take_all n old h)) ∙ filled old m q

pub returns-in_ok-resize-clause-same : goal.returns-in_ok-resize-clause-same
returns-in_ok-resize-clause-same c = grown _ _ _ _ (omega arith) c.in_ok-resize.ensures.items
