-- The bytes of a source that were looked at, as they are given.
use Rattle.std.proofs.Common.{◌≡◌, ◌∙◌, ℕ, ◌+◌, ◌-◌, ◌≤◌, List, [], ◌++◌, length, slice_range, take, drop, drop-drop, Option, Result, ap, sym, subst, arith}
use Rattle.std.specs.Io.KnownBytes.{ReadConsumes, prepend_known}
use Rattle.std.proofs.KnownBytes.{prepend_known-nil}
use Rattle.std.proofs.Math.Seq.{take-add, take-append_seam}

-- the first of those that are held, and then the others
pub given_first : (xs ys more : List ℕ) (a n b : ℕ) → a + n ≤ b → length ys ≡ n → ys ≡ slice_range xs a (a + n)
    → slice_range xs a b ≡ take n (ys ++ more) ++ slice_range xs (a + n) b
given_first xs ys more a n b within size is =
    let all : b - a ≡ n + (b - (a + n)) = omega arith in
    let some : (a + n) - a ≡ n = omega arith in
    let front : take n (drop a xs) ≡ take n (ys ++ more) =
    ap (λ k. take k (drop a xs)) (sym some) ∙ sym is ∙ sym (take-append_seam ys more) ∙ ap (λ k. take k (ys ++ more)) size in
    ap (λ k. take k (drop a xs)) all
    ∙ take-add n (b - (a + n)) (drop a xs)
    ∙ ap (λ l. l ++ take (b - (a + n)) (drop n (drop a xs))) front
    ∙ ap (λ l. take n (ys ++ more) ++ take (b - (a + n)) l) (drop-drop n a xs)

-- where none are held, a read of the source is one of the whole
pub none_held : (xs : List ℕ) (a b : ℕ) → b ≤ a → slice_range xs a b ≡ []
none_held xs a b h = (let none : b - a ≡ 0 = omega arith in ap (λ k. take k (drop a xs)) none)

pub read_behind : {E : Type 0} (held : List ℕ) (old new : Option (List ℕ)) (r : Result ℕ E) (buf : List ℕ) → held ≡ [] → ReadConsumes old new r buf
    → ReadConsumes (prepend_known held old) (prepend_known held new) r buf
read_behind held old new r buf none h =
    subst (λ l. ReadConsumes (prepend_known l old) (prepend_known l new) r buf) (sym none)
    (subst (λ o. ReadConsumes o (prepend_known [] new) r buf) (sym (prepend_known-nil old)) (subst (λ o. ReadConsumes old o r buf) (sym (prepend_known-nil new)) h))
