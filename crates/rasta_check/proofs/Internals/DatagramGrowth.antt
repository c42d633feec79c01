-- Datagrams one after the other, with one more.
use Rattle.std.proofs.Common.{◌≡◌, ℕ, suc, List, [], ◌∷◌, ◌++◌, length, map, Result, OnOk, refl, ap, ◌∙◌, arith}
use Rattle.rasta_check.proofs.Prelude.{map-append, take-append-le, take_all}
use Rattle.std.proofs.lemmas.List.{drop-append-le, length-drop}
use Rattle.std.proofs.Math.Seq.{drop-append_seam}
use Rattle.rasta_check.specs.declared.datagrams.Span.{Span}
use Rattle.rasta_check.specs.Internals.Datagrams.{LieIn, kept_in}

old_spans : (bytes more : List ℕ) (spans : List Span) → LieIn (length bytes) spans → map (kept_in (bytes ++ more)) spans ≡ map (kept_in bytes) spans
old_spans bytes more [] h = refl
old_spans bytes more (s ∷ spans) h = (let rest = old_spans bytes more spans (λ j. h (suc j)) in let here = h 0 s refl in grind (arith, length-drop, drop-append-le, take-append-le))

-- the datagrams of the side that has no new one
pub same_kept : (bytes all more : List ℕ) (spans : List Span) → LieIn (length bytes) spans → all ≡ bytes ++ more → map (kept_in all) spans ≡ map (kept_in bytes) spans
same_kept bytes all more spans h e = ap (λ (xs : List ℕ). map (kept_in xs) spans) e ∙ old_spans bytes more spans h

-- those of the side that has one
pub kept_grown : (bytes all more : List ℕ) (spans new : List Span) (place : ℕ) → LieIn (length bytes) spans → all ≡ bytes ++ more
    → new ≡ spans ++ record { start = length bytes; place = place; len = length more } ∷ []
    → map (kept_in all) new ≡ map (kept_in bytes) spans ++ record { place = place; bytes = more } ∷ []
kept_grown bytes all more spans new place h e f = grind (arith, map-append, old_spans, drop-append_seam, take_all)

-- two facts of an answer give a third
pub both_ok : {A E : Type 0} (r : Result A E) (P Q R : Type 0) → (P → Q → R) → OnOk r P → OnOk r Q → OnOk r R
both_ok r P Q R f p q = grind arith
