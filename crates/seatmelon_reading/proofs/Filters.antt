-- How many elements of a list pass a test.
use Rattle.std.proofs.Common.{◌≡◌, ◌∙◌, ◌+◌, ◌≤◌, List, [], ◌∷◌, ◌++◌, length, filter, cond, Bool, true, false, ap, sym, add-zero, append-nil, arith}
use Rattle.std.proofs.lemmas.List.{length-append}
use Rattle.std.proofs.lemmas.List.Elements.{filter-append}

-- one element more
pub length_filter-push : {X : Type 0} (test : X → Bool) (l : List X) (x : X) (b : Bool) → test x ≡ b
    → length (filter test (l ++ x ∷ [])) ≡ length (filter test l) + cond b 1 0
length_filter-push test l x true e =
    ap length (filter-append test l (x ∷ []) ∙ ap (λ c. filter test l ++ cond c (x ∷ []) []) e) ∙ length-append (filter test l) (x ∷ [])
length_filter-push test l x false e =
    ap length (filter-append test l (x ∷ []) ∙ ap (λ c. filter test l ++ cond c (x ∷ []) []) e ∙ append-nil _) ∙ sym (add-zero _)

bound_kept : {X : Type 0} (b : Bool) (x : X) (kept l : List X) → length kept ≤ length l → length (cond b (x ∷ kept) kept) ≤ length (x ∷ l)
bound_kept true x kept l h = omega arith
bound_kept false x kept l h = omega arith

-- no more than the list has
pub length_filter-most : {X : Type 0} (test : X → Bool) (l : List X) → length (filter test l) ≤ length l
length_filter-most test [] = omega arith
length_filter-most test (x ∷ l) = bound_kept (test x) x (filter test l) l (length_filter-most test l)
