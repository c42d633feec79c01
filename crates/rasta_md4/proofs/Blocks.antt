-- How the blocks of a message follow from those of its parts.
use Rattle.std.proofs.Common.{◌≡◌, ℕ, ◌+◌, ◌-◌, ◌*◌, ◌/◌, ◌<◌, ◌≤◌, List, [], ◌++◌, length, take, drop, map, get_or, refl, sym, ap, ◌∙◌, inl, inr, add-zero, arith, length-append, length-drop}
use Rattle.std.specs.Prelude.{slice_index, fold}
use Rattle.std.specs.List.{range_with_len}
use Rattle.std.proofs.lemmas.Bool.{cases_lt}
use Rattle.std.proofs.lemmas.List.{same_lists, take-append-drop, length-take-le, drop-append-le, drop-drop, drop_at, get_or_append_left, get_or-append_right}
use Rattle.std.proofs.lemmas.List.FromFn.{fill_by_all, get_or-map-range_with_len, length-map-range_with_len, map-range_with_len_more}
use Rattle.std.proofs.lemmas.List.Sums.{fold-append, fold_push}
use Rattle.byteorder.specs.Endian.{little_number}
use Rattle.byteorder.specs.Numbers.{little_from-append}
use Rattle.rasta_md4.specs.Md4.{block_at, blocks, compress, word_at}

-- a word within the first part of a message is that part's
word_at-append : (p x : List ℕ) (j : ℕ) → 4 * j + 4 ≤ length p → word_at (p ++ x) j ≡ word_at p j
word_at-append p x j h =
    let fits : 4 ≤ length (drop (4 * j) p) = omega (arith, length-drop (4 * j) p) in
    let cut : drop (4 * j) (p ++ x) ≡ drop (4 * j) p ++ x = drop-append-le (4 * j) p x (omega arith) in
    ap (little_number 4) cut ∙ little_from-append 4 (drop (4 * j) p) x fits

-- a word counted from a later byte of the message
word_at-drop : (m : List ℕ) (n j k : ℕ) → n + 4 * j ≡ 4 * k → word_at (drop n m) j ≡ word_at m k
word_at-drop m n j k e = ap (little_number 4) (drop-drop (4 * j) n m ∙ ap (λ (i : ℕ). drop i m) e)

-- blocks of the same words are the same
block_at-same : (m n : List ℕ) (i j : ℕ) → ((k : ℕ) → k < 16 → word_at m (16 * i + k) ≡ word_at n (16 * j + k)) → block_at m i ≡ block_at n j
unfolding block_at
block_at-same m n i j same =
    let left : length (map (word_at m) (range_with_len (16 * i) 16)) ≡ 16 = length-map-range_with_len (word_at m) (16 * i) 16 in
    let right : length (map (word_at n) (range_with_len (16 * j) 16)) ≡ 16 = length-map-range_with_len (word_at n) (16 * j) 16 in
    same_lists _ _ (left ∙ sym right) (λ k d h.
    let low : k < 16 = omega arith in
    get_or-map-range_with_len (word_at m) (16 * i) 16 k (16 * i + k) d low refl
    ∙ same k low ∙ sym (get_or-map-range_with_len (word_at n) (16 * j) 16 k (16 * j + k) d low refl))

-- sixteen words that are those of the bytes are their block
pub block_at_is : (bytes block : List ℕ) → length block ≡ 16 → ((k : ℕ) → k < 16 → slice_index block k ≡ word_at bytes k) → block ≡ block_at bytes 0
unfolding block_at
block_at_is bytes block len same = fill_by_all (word_at bytes) block 16 0 len same

-- a block within the first part of a message is that part's
block_at-append : (p x : List ℕ) (i : ℕ) → 64 * i + 64 ≤ length p → block_at (p ++ x) i ≡ block_at p i
block_at-append p x i h =
    block_at-same (p ++ x) p i i (λ k low. word_at-append p x (16 * i + k) (omega arith))

-- a block counted from a later block of the message
block_at-drop : (m : List ℕ) (a i : ℕ) → block_at (drop (64 * a) m) i ≡ block_at m (a + i)
block_at-drop m a i =
    block_at-same (drop (64 * a) m) m i (a + i) (λ k low. word_at-drop m (64 * a) (16 * i + k) (16 * (a + i) + k) (omega arith))

-- the block that a part of 64 bytes is
pub block_at-part : (m s : List ℕ) (i : ℕ) → s ≡ take 64 (drop (64 * i) m) → 64 * i + 64 ≤ length m → block_at s 0 ≡ block_at m i
block_at-part m s i e h =
    let y : List ℕ = drop (64 * i) m in
    let fits : length (take 64 y) ≡ 64 = length-take-le 64 y (omega (arith, length-drop (64 * i) m)) in
    let whole : take 64 y ++ drop 64 y ≡ y = take-append-drop 64 y in
    let front : block_at (take 64 y ++ drop 64 y) 0 ≡ block_at (take 64 y) 0 = block_at-append (take 64 y) (drop 64 y) 0 (omega arith) in
    ap (λ (z : List ℕ). block_at z 0) e ∙ sym front ∙ ap (λ (z : List ℕ). block_at z 0) whole
    ∙ block_at-drop m i 0 ∙ ap (block_at m) (add-zero i)

-- how many blocks a message has
pub length-blocks : (m : List ℕ) → length (blocks m) ≡ length m / 64
unfolding blocks
length-blocks m = length-map-range_with_len (block_at m) 0 (length m / 64)

-- each block of a message, by its place
get_or-blocks : (m : List ℕ) (i : ℕ) (d : List ℕ) → i < length m / 64 → get_or (blocks m) i d ≡ block_at m i
unfolding blocks
get_or-blocks m i d h = get_or-map-range_with_len (block_at m) 0 (length m / 64) i i d h (omega arith)

-- the blocks of a message whose first part is whole blocks
pub blocks-append : (p x : List ℕ) (a : ℕ) → length p ≡ 64 * a → blocks (p ++ x) ≡ blocks p ++ blocks x
blocks-append p x a len =
    let both : length (p ++ x) ≡ length p + length x = length-append p x in
    let front : length (blocks p) ≡ a = length-blocks p ∙ (let e : length p / 64 ≡ a = omega arith in e) in
    let back = length-blocks x in
    let all = length-blocks (p ++ x) in
    let parts = length-append (blocks p) (blocks x) in
    same_lists (blocks (p ++ x)) (blocks p ++ blocks x) (omega arith) (λ i d h.
    let here : get_or (blocks (p ++ x)) i d ≡ block_at (p ++ x) i = get_or-blocks (p ++ x) i d (omega arith) in
    elim (cases_lt i a) [
      | inl low ↦
          here ∙ block_at-append p x i (omega arith)
          ∙ sym (get_or_append_left (blocks p) (blocks x) d i (omega arith) ∙ get_or-blocks p i d (omega arith))
      | inr high ↦
          let sum : a + (i - a) ≡ i = omega arith in
          let later : block_at (p ++ x) i ≡ block_at x (i - a) =
          ap (block_at (p ++ x)) (sym sum) ∙ sym (block_at-drop (p ++ x) a (i - a)) ∙ ap (λ (z : List ℕ). block_at z (i - a)) (drop_at p x (64 * a) len) in
          here ∙ later
          ∙ sym (get_or-append_right (blocks p) (blocks x) a i d front high ∙ get_or-blocks x (i - a) d (omega arith))
    ])

-- a message short of a block has none
pub blocks_none : (m : List ℕ) → length m < 64 → blocks m ≡ []
unfolding blocks
blocks_none m h = let none : length m / 64 ≡ 0 = omega arith in rw none refl

-- the registers after the blocks of two parts
pub fold-blocks-append : (r p x : List ℕ) (a : ℕ) → length p ≡ 64 * a → fold compress r (blocks (p ++ x)) ≡ fold compress (fold compress r (blocks p)) (blocks x)
fold-blocks-append r p x a len = ap (fold compress r) (blocks-append p x a len) ∙ fold-append compress r (blocks p) (blocks x)

-- the registers after one block more of a message
pub fold-blocks_more : (r m s : List ℕ) (i : ℕ) → s ≡ take 64 (drop (64 * i) m) → 64 * i + 64 ≤ length m
    → compress (fold compress r (map (block_at m) (range_with_len 0 i))) (block_at s 0) ≡ fold compress r (map (block_at m) (range_with_len 0 (i + 1)))
fold-blocks_more r m s i e h =
    ap (compress (fold compress r (map (block_at m) (range_with_len 0 i)))) (block_at-part m s i e h)
    ∙ sym (ap (fold compress r) (map-range_with_len_more (block_at m) 0 i i (omega arith)) ∙ fold_push compress r (map (block_at m) (range_with_len 0 i)) (block_at m i))
