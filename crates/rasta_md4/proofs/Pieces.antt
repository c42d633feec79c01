-- What is kept of a message when a piece more comes in.
use Rattle.std.proofs.Common.{◌≡◌, ℕ, ◌+◌, ◌*◌, ◌/◌, ◌%◌, ◌^◌, ◌<◌, ◌≤◌, List, [], ◌++◌, length, take, drop, refl, sym, ap, ◌∙◌, arith, length-append, length-drop}
use Rattle.std.specs.Prelude.{fold}
use Rattle.std.proofs.lemmas.List.{append-nil, append_assoc, take-append-drop, length-take-le, drop-drop, drop_all, drop_at}
use Rattle.std.specs.List.{flat_map}
use Rattle.byteorder.specs.Endian.{little_bytes}
use Rattle.rasta_md4.specs.Md4.{blocks, compress, md4, padding}
use Rattle.rasta_md4.specs.Progress.{Progress, past_blocks, holding}
use Rattle.rasta_md4.proofs.Padding.{padding-mod}
use borrow.Rule.Slice.PartMut.{put_mid, post_of}
use Rattle.rasta_md4.proofs.Blocks.{blocks_none, fold-blocks-append}

-- whole blocks before them leave the bytes after the blocks as they are
pub past_blocks-append : (p y : List ℕ) (a : ℕ) → length p ≡ 64 * a → past_blocks (p ++ y) ≡ past_blocks y
past_blocks-append p y a len =
    let both : length (p ++ y) ≡ length p + length y = length-append p y in
    let count : length (p ++ y) / 64 * 64 ≡ 64 * a + length y / 64 * 64 = omega arith in
    ap (λ (n : ℕ). drop n (p ++ y)) count
    ∙ sym (drop-drop (length y / 64 * 64) (64 * a) (p ++ y))
    ∙ ap (drop (length y / 64 * 64)) (drop_at p y (64 * a) len)

-- a message short of a block is after the blocks as a whole
pub past_blocks_short : (m : List ℕ) → length m < 64 → past_blocks m ≡ m
past_blocks_short m h = let none : length m / 64 * 64 ≡ 0 = omega arith in rw none refl

-- the registers after a message and a piece more are those after what waits and the piece
fold-after : (r m d : List ℕ) → fold compress r (blocks (m ++ d)) ≡ fold compress (fold compress r (blocks m)) (blocks (past_blocks m ++ d))
fold-after r m d =
    let a : ℕ = length m / 64 in
    let p : List ℕ = take (a * 64) m in
    let t : List ℕ = past_blocks m in
    let len : length p ≡ 64 * a = length-take-le (a * 64) m (omega arith) ∙ (let e : a * 64 ≡ 64 * a = omega arith in e) in
    let whole : p ++ t ≡ m = take-append-drop (a * 64) m in
    let short : length t < 64 = omega (arith, length-drop (a * 64) m) in
    let before : fold compress r (blocks m) ≡ fold compress r (blocks p) =
    ap (λ (z : List ℕ). fold compress r (blocks z)) (sym whole) ∙ fold-blocks-append r p t a len ∙ ap (fold compress (fold compress r (blocks p))) (blocks_none t short) in
    let parts : m ++ d ≡ p ++ (t ++ d) = ap (λ (z : List ℕ). z ++ d) (sym whole) ∙ append_assoc p t d in
    ap (λ (z : List ℕ). fold compress r (blocks z)) parts ∙ fold-blocks-append r p (t ++ d) a len
    ∙ ap (λ (z : List ℕ). fold compress z (blocks (t ++ d))) (sym before)

-- the bytes after the blocks of a message and a piece more
past_blocks-after : (m d : List ℕ) → past_blocks (m ++ d) ≡ past_blocks (past_blocks m ++ d)
past_blocks-after m d =
    let a : ℕ = length m / 64 in
    let p : List ℕ = take (a * 64) m in
    let len : length p ≡ 64 * a = length-take-le (a * 64) m (omega arith) ∙ (let e : a * 64 ≡ 64 * a = omega arith in e) in
    let whole : p ++ past_blocks m ≡ m = take-append-drop (a * 64) m in
    let parts : m ++ d ≡ p ++ (past_blocks m ++ d) = ap (λ (z : List ℕ). z ++ d) (sym whole) ∙ append_assoc p (past_blocks m) d in
    ap past_blocks parts ∙ past_blocks-append p (past_blocks m ++ d) a len

-- a buffer filled up to its end
pub put_mid-end : (xs ys : List ℕ) (k n : ℕ) → length xs ≡ k + n → put_mid k n xs ys ≡ take k xs ++ ys
put_mid-end xs ys k n len =
    let none : post_of k n xs ≡ [] = drop_all n (drop k xs) (omega (arith, length-drop k xs)) in
    ap (λ (z : List ℕ). take k xs ++ (ys ++ z)) none ∙ ap (λ (z : List ℕ). take k xs ++ z) (append-nil ys)

-- the filled block and what follows it are all the bytes
filled : (t d b : List ℕ) (n : ℕ) → b ≡ t ++ take n d → t ++ d ≡ b ++ drop n d
filled t d b n e =
    ap (λ (z : List ℕ). t ++ z) (sym (take-append-drop n d)) ∙ sym (append_assoc t (take n d) (drop n d)) ∙ ap (λ (z : List ℕ). z ++ drop n d) (sym e)

-- the filled block has 64 bytes
length_filled : (t d b : List ℕ) (n : ℕ) → b ≡ t ++ take n d → length t + n ≡ 64 → n ≤ length d → length b ≡ 64
length_filled t d b n e sum fits =
    ap length e ∙ length-append t (take n d) ∙ ap (λ (i : ℕ). length t + i) (length-take-le n d fits) ∙ sum

-- what is kept after a piece more follows from what was kept and the piece
pub holding_more : (w m d : List ℕ) (s : Progress) → s ≡ holding w m
    → record { registers = fold compress s.registers (blocks (s.waiting ++ d)); waiting = past_blocks (s.waiting ++ d); count = (s.count + length d) % 2 ^ 64 } ≡ holding w (m ++ d)
unfolding holding
holding_more w m d s held =
    let registers = fold-after w m d in
    let waiting = past_blocks-after m d in
    let count : (length m % 2 ^ 64 + length d) % 2 ^ 64 ≡ length (m ++ d) % 2 ^ 64 = omega (arith, length-append m d) in
    rw (held, registers, waiting, ← count) refl

-- bytes that fill up a block, and more after them: the block is worked off first
pub fold_filled : (r t d b : List ℕ) (n : ℕ) → b ≡ t ++ take n d → length t + n ≡ 64 → n ≤ length d
    → fold compress (fold compress r (blocks b)) (blocks (drop n d)) ≡ fold compress r (blocks (t ++ d))
fold_filled r t d b n e sum fits =
    let len = length_filled t d b n e sum fits in
    sym (ap (λ (z : List ℕ). fold compress r (blocks z)) (filled t d b n e) ∙ fold-blocks-append r b (drop n d) 1 len)

-- the bytes after the blocks are those of what follows the filled block
pub past_blocks_filled : (t d b : List ℕ) (n : ℕ) → b ≡ t ++ take n d → length t + n ≡ 64 → n ≤ length d → past_blocks (drop n d) ≡ past_blocks (t ++ d)
past_blocks_filled t d b n e sum fits =
    let len = length_filled t d b n e sum fits in
    sym (ap past_blocks (filled t d b n e) ∙ past_blocks-append b (drop n d) 1 len)

-- the digest of a message, from what is kept of it
pub md4_is : (w m : List ℕ) (s : Progress) → s ≡ holding w m → md4 w m ≡ flat_map (little_bytes 4) (fold compress s.registers (blocks (s.waiting ++ padding s.count)))
unfolding md4 holding
md4_is w m s held =
    let registers = fold-after w m (padding (length m)) in
    rw (held, padding-mod (length m)) (ap (flat_map (little_bytes 4)) registers)

-- the digest of a message, from its whole blocks and what follows them
pub md4_whole : (w m : List ℕ) → md4 w m ≡ flat_map (little_bytes 4) (fold compress (fold compress w (blocks m)) (blocks (past_blocks m ++ padding (length m))))
unfolding md4
md4_whole w m = ap (flat_map (little_bytes 4)) (fold-after w m (padding (length m)))
