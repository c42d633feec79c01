-- The front of a list that grows.
use Rattle.std.proofs.Common.{◌≡◌, ◌∙◌, ◌⊎◌, ℕ, ◌+◌, ◌-◌, ◌≤◌, ◌<◌, List, [], ◌++◌, length, take, min, ap, sym, inl, inr, append-nil, arith}
use Rattle.std.proofs.lemmas.List.{length-take, take-append-le, take_min}
use Rattle.std.proofs.Math.Seq.{take-append-add, take-length}

-- a full front stays
pub front_full : (n : ℕ) (passed bytes front : List ℕ) → front ≡ take n passed → n - length front ≡ 0 → front ≡ take n (passed ++ bytes)
front_full n passed bytes front is full =
    let size : length front ≡ min n (length passed) = ap length is ∙ length-take n passed in
    let within : n ≤ length passed = omega (arith, size, full) in
    is ∙ sym (take-append-le n passed bytes within)

-- one that isn't goes on
pub front_grows : (n count : ℕ) (passed bytes front : List ℕ) → front ≡ take n passed → 0 < n - length front → count ≡ min (length bytes) (n - length front)
    → front ++ take count bytes ≡ take n (passed ++ bytes)
front_grows n count passed bytes front is room some =
    let size : length front ≡ min n (length passed) = ap length is ∙ length-take n passed in
    let within : length passed ≤ n = omega (arith, size, room) in
    let small : min n (length passed) ≡ length passed = omega (arith, within) in
    let whole : front ≡ passed = is ∙ sym (take_min n passed) ∙ ap (λ k. take k passed) small ∙ take-length passed in
    let left : n - length front ≡ n - length passed = ap (λ l. n - length l) whole in
    let taken : count ≡ min (n - length passed) (length bytes) = omega (arith, some, left) in
    let seam : n ≡ length passed + (n - length passed) = omega (arith, within) in
    ap (λ l. l ++ take count bytes) whole
    ∙ ap (λ k. passed ++ take k bytes) taken
    ∙ ap (λ l. passed ++ l) (take_min (n - length passed) bytes)
    ∙ sym (take-append-add passed bytes (n - length passed))
    ∙ ap (λ k. take k (passed ++ bytes)) (sym seam)
