-- In which bytes a datagram differs from its first copy, byte by byte.
use Rattle.std.proofs.Common.{◌≡◌, ◌∙◌, ℕ, zero, suc, ◌+◌, ◌<◌, ◌≤◌, ◌==◌, Bool, true, false, cond, List, [], ◌∷◌, ◌++◌, length, take, min, ap, refl, sym, add-zero, append-nil, append_assoc, arith}
use Rattle.std.proofs.Math.ListN.{get_or}
use Rattle.std.proofs.lemmas.List.{length-append, length-take, length-take-le, take-append-le, take_all, take_more}
use Rattle.seatmelon_account.specs.Differences.{difference_at, differing}
use Rattle.seatmelon_account.specs.declared.differences.Difference.{Difference}

-- one byte more of both
pub differing_more : (at : ℕ) (bytes first : List ℕ) (b f : ℕ) → length bytes ≡ length first
    → differing at (bytes ++ b ∷ []) (first ++ f ∷ []) ≡ differing at bytes first ++ difference_at (at + length bytes) b f
differing_more at [] [] b f same = append-nil (difference_at at b f) ∙ ap (λ (n : ℕ). difference_at n b f) (sym (add-zero at))
differing_more at [] (y ∷ first) b f same = absurd cc
differing_more at (x ∷ bytes) [] b f same = absurd cc
differing_more at (x ∷ bytes) (y ∷ first) b f same =
    let rest : length bytes ≡ length first = omega (arith, same) in
    let place : at + 1 + length bytes ≡ at + suc (length bytes) = omega arith in
    ap (λ l. difference_at at x y ++ l) (differing_more (at + 1) bytes first b f rest)
    ∙ sym (append_assoc (difference_at at x y) (differing (at + 1) bytes first) (difference_at (at + 1 + length bytes) b f))
    ∙ ap (λ (n : ℕ). (difference_at at x y ++ differing (at + 1) bytes first) ++ difference_at n b f) place

-- those that are told, where there is room for one more
pub told_with_room : (all more told : List Difference) → told ≡ take 16 all → length told < 16 → length more ≤ 1 → told ++ more ≡ take 16 (all ++ more)
told_with_room all more told is room one =
    let size : length told ≡ min 16 (length all) = ap length is ∙ length-take 16 all in
    let few : length all < 16 = omega (arith, size, room) in
    let whole : told ≡ all = is ∙ take_all 16 all (omega (arith, few)) in
    let both : length (all ++ more) ≤ 16 = let sum = length-append all more in omega (arith, sum, few, one) in
    ap (λ l. l ++ more) whole ∙ sym (take_all 16 (all ++ more) both)

-- those that are told, where there is none
pub told_full : (all more told : List Difference) → told ≡ take 16 all → 16 ≤ length told → told ≡ take 16 (all ++ more)
told_full all more told is full =
    let size : length told ≡ min 16 (length all) = ap length is ∙ length-take 16 all in
    let many : 16 ≤ length all = omega (arith, size, full) in
    is ∙ sym (take-append-le 16 all more many)

-- bytes that are the same are none that differ
pub told_same : (all told : List Difference) (at byte first : ℕ) → (byte == first) ≡ true → told ≡ take 16 all → told ≡ take 16 (all ++ difference_at at byte first)
told_same all told at byte first same is =
    is ∙ sym (ap (λ (b : Bool). take 16 (all ++ cond b [] (record { at = at; byte = byte; first = first } ∷ []))) same ∙ ap (take 16) (append-nil all))

pub told_other : (all told new : List Difference) (at byte first : ℕ) → (byte == first) ≡ false → new ≡ take 16 (all ++ record { at = at; byte = byte; first = first } ∷ [])
    → new ≡ take 16 (all ++ difference_at at byte first)
told_other all told new at byte first other is =
    is ∙ sym (ap (λ (b : Bool). take 16 (all ++ cond b [] (record { at = at; byte = byte; first = first } ∷ []))) other)

-- bytes of one alone are looked at no more
pub differing_all : (m at : ℕ) (bytes first : List ℕ) → min (length bytes) (length first) ≤ m → differing at (take m bytes) (take m first) ≡ differing at bytes first
differing_all zero at [] first few = refl
differing_all (suc m) at [] first few = refl
differing_all zero at (b ∷ bytes) [] few = refl
differing_all (suc m) at (b ∷ bytes) [] few = refl
differing_all zero at (b ∷ bytes) (f ∷ first) few = absurd (omega (arith, few))
differing_all (suc m) at (b ∷ bytes) (f ∷ first) few = ap (λ l. difference_at at b f ++ l) (differing_all m (at + 1) bytes first (omega (arith, few)))

-- the first of those in one byte more of both
pub told_on : (at : ℕ) (bytes first : List ℕ) (told : List Difference) → at < length bytes → at < length first
    → told ≡ take 16 (differing 0 (take at bytes) (take at first) ++ difference_at at (get_or bytes at 0) (get_or first at 0))
    → told ≡ take 16 (differing 0 (take (at + 1) bytes) (take (at + 1) first))
told_on at bytes first told of_bytes of_first is =
    let size : length (take at bytes) ≡ at = length-take-le at bytes (omega (arith, of_bytes)) in
    let same : length (take at bytes) ≡ length (take at first) = size ∙ sym (length-take-le at first (omega (arith, of_first))) in
    let place : 0 + length (take at bytes) ≡ at = omega (arith, size) in
    let before = differing 0 (take at bytes) (take at first) in
    let byte = get_or bytes at 0 in
    let other = get_or first at 0 in
    let more : differing 0 (take (at + 1) bytes) (take (at + 1) first) ≡ before ++ difference_at at byte other =
    ap (λ l. differing 0 l (take (at + 1) first)) (take_more bytes at 0 of_bytes)
    ∙ ap (λ l. differing 0 (take at bytes ++ byte ∷ []) l) (take_more first at 0 of_first)
    ∙ differing_more 0 (take at bytes) (take at first) byte other same
    ∙ ap (λ (n : ℕ). before ++ difference_at n byte other) place in is ∙ ap (take 16) (sym more)
