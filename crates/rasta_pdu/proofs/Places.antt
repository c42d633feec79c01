-- Where the parts of a datagram stand.
use Rattle.std.proofs.Common.{◌≡◌, ℕ, ◌+◌, ◌-◌, ◌≤◌, List, ◌++◌, length, take, drop, slice_range, ap, sym, ◌∙◌, arith, append_assoc, length-append, length-take, length-drop}
use Rattle.std.proofs.Math.Seq.{take-append_seam, drop-append_seam}
use Rattle.std.proofs.lemmas.List.Folds.{drop_split}

-- the first of three parts
pub first_part : (n : ℕ) (u c k : List ℕ) → n ≡ length u → take n ((u ++ c) ++ k) ≡ u
first_part n u c k e =
    ap (λ (l : List ℕ). take n l) (append_assoc u c k) ∙ ap (λ (m : ℕ). take m (u ++ (c ++ k))) e ∙ take-append_seam u (c ++ k)

-- what follows it
pub after_first : (n : ℕ) (u c k : List ℕ) → n ≡ length u → drop n ((u ++ c) ++ k) ≡ c ++ k
after_first n u c k e =
    ap (λ (l : List ℕ). drop n l) (append_assoc u c k) ∙ ap (λ (m : ℕ). drop m (u ++ (c ++ k))) e ∙ drop-append_seam u (c ++ k)

-- the second of three parts
pub second_part : (n m : ℕ) (u c k : List ℕ) → n ≡ length u → m ≡ length u + length c → slice_range ((u ++ c) ++ k) n m ≡ c
second_part n m u c k e f =
    let size : m - n ≡ length c = omega arith in
    ap (λ (l : List ℕ). take (m - n) l) (after_first n u c k e) ∙ ap (λ (i : ℕ). take i (c ++ k)) size ∙ take-append_seam c k

-- the third of three parts
pub third_part : (n : ℕ) (u c k : List ℕ) → n ≡ length u + length c → drop n ((u ++ c) ++ k) ≡ k
third_part n u c k e =
    let size = length-append u c in
    ap (λ (m : ℕ). drop m ((u ++ c) ++ k)) (e ∙ sym size) ∙ drop-append_seam (u ++ c) k

pub length-three : (u c k : List ℕ) → length ((u ++ c) ++ k) ≡ length u + length c + length k
length-three u c k = let outer = length-append (u ++ c) k in let inner = length-append u c in omega arith

-- a list from a place on is what stands between that place and two more, and what follows
pub three_parts : (xs : List ℕ) (at code check : ℕ) → at ≤ code → code ≤ check
    → drop at xs ≡ (slice_range xs at code ++ slice_range xs code check) ++ drop check xs
three_parts xs at code check h k =
    drop_split xs at code h ∙ ap (λ (l : List ℕ). slice_range xs at code ++ l) (drop_split xs code check k)
    ∙ sym (append_assoc (slice_range xs at code) (slice_range xs code check) (drop check xs))

pub length-slice_range : (xs : List ℕ) (from to : ℕ) → from ≤ to → to ≤ length xs → length (slice_range xs from to) ≡ to - from
length-slice_range xs from to h k =
    let taken = length-take (to - from) (drop from xs) in
    let left = length-drop from xs in
    omega arith
