-- All that is left of a source, written piece by piece.
use Rattle.std.proofs.Common.{◌∙◌, ℕ, List, ◌++◌, append-nil, Option, None, Some, IfSome, ap, subst, sym}
use Rattle.std.specs.Io.KnownBytes.{Appends, Consumes, IsAtEnd}

-- what was written is all that the source had
pub copied_all : (old left start now : Option (List ℕ)) (done : List ℕ) → Consumes old left done → IsAtEnd left → Appends start now done
    → IfSome old (λ bytes. Appends start now bytes)
copied_all None left start now done lost end out = tt
copied_all (Some bytes) None start now done lost end out = absurd lost
copied_all (Some bytes) (Some rest) start now done lost end out =
    subst (Appends start now) (sym (lost ∙ ap (λ l. done ++ l) end ∙ append-nil done)) out
