-- Words of four schedules side by side.
use Rattle.std.proofs.Common.{◌≡◌, ℕ, zero, suc, ◌+◌, ◌-◌, ◌*◌, ◌/◌, ◌%◌, ◌^◌, ◌<◌, ◌≤◌, List, [], ◌∷◌, length, drop, get_or, map, replicate, slice_index, slice_set, refl, sym, ap, subst, ◌∙◌, arith, w32, Fits, bit_or, bit_xor, inl, inr}
use Rattle.std.specs.Simd.Lanes.{zip2, Each1}
use Rattle.std.proofs.lemmas.List.{get_or-drop, get_or-set_same, get_or-set_other, get_or-take, length-set}
use Rattle.std.proofs.lemmas.Bool.{cases_lt}
use Rattle.sha2.specs.Sha256.{add32, round_constants, schedule, small_sigma0, small_sigma1, word_at}
use Rattle.sha2.proofs.Schedule256.{slice_index-schedule_first, slice_index-schedule_next}
use Rattle.rasta_sha256.specs.Lanes.{HoldsSums, HoldsWords, block_at, schedule_word, sums_at, words_at}
use Rattle.rasta_sha256.proofs.Rotations.{rotated, rotated_two}

-- what holds of four lanes one by one holds of the vector
four : (P : List ℕ → Type 0) → ((a b c d : ℕ) → P (a ∷ b ∷ c ∷ d ∷ [])) → (xs : List ℕ) → length xs ≡ 4 → P xs
four P each (a ∷ b ∷ c ∷ d ∷ []) long = each a b c d
four P each [] long = absurd (omega (arith, long))
four P each (a ∷ []) long = absurd (omega (arith, long))
four P each (a ∷ b ∷ []) long = absurd (omega (arith, long))
four P each (a ∷ b ∷ c ∷ []) long = absurd (omega (arith, long))
four P each (a ∷ b ∷ c ∷ d ∷ e ∷ xs) long = absurd (omega (arith, long))

-- each lane rotated to the right
abbrev rotated_each : List ℕ → ℕ → List ℕ
rotated_each xs k = zip2 bit_or (zip2 (λ a b. a / 2 ^ b) xs (replicate 4 k)) (zip2 (λ a b. a * 2 ^ b % 2 ^ 32) xs (replicate 4 (32 - k)))

-- two rotations under exclusive or, and a shift, of each lane
abbrev sigma_each : List ℕ → ℕ → ℕ → ℕ → List ℕ
sigma_each xs outer inner shift = zip2 bit_xor (rotated_each (zip2 bit_xor xs (rotated_each xs inner)) outer) (zip2 (λ a b. a / 2 ^ b) xs (replicate 4 shift))

sigma0_at : (x : ℕ) → Fits w32 x → bit_xor (rotated (bit_xor x (rotated x 11)) 7) (x / 2 ^ 3) ≡ small_sigma0 x
sigma0_at x fits = ap (λ (y : ℕ). bit_xor y (x / 2 ^ 3)) (rotated_two x 7 11 (omega arith) fits.fits)

sigma1_at : (x : ℕ) → Fits w32 x → bit_xor (rotated (bit_xor x (rotated x 2)) 17) (x / 2 ^ 10) ≡ small_sigma1 x
sigma1_at x fits = ap (λ (y : ℕ). bit_xor y (x / 2 ^ 10)) (rotated_two x 17 2 (omega arith) fits.fits)

pub sigma0_each : (xs : List ℕ) → length xs ≡ 4 → Each1 (Fits w32) xs → sigma_each xs 7 11 3 ≡ map small_sigma0 xs
sigma0_each xs long =
    four (λ (ys : List ℕ). Each1 (Fits w32) ys → sigma_each ys 7 11 3 ≡ map small_sigma0 ys)
    (λ a b c d fits. (λ i. sigma0_at a fits.0 i ∷ sigma0_at b fits.1.0 i ∷ sigma0_at c fits.1.1.0 i ∷ sigma0_at d fits.1.1.1.0 i ∷ []))
    xs long

pub sigma1_each : (xs : List ℕ) → length xs ≡ 4 → Each1 (Fits w32) xs → sigma_each xs 17 2 10 ≡ map small_sigma1 xs
sigma1_each xs long =
    four (λ (ys : List ℕ). Each1 (Fits w32) ys → sigma_each ys 17 2 10 ≡ map small_sigma1 ys)
    (λ a b c d fits. (λ i. sigma1_at a fits.0 i ∷ sigma1_at b fits.1.0 i ∷ sigma1_at c fits.1.1.0 i ∷ sigma1_at d fits.1.1.1.0 i ∷ []))
    xs long

-- the same words, counted another way
pub HoldsWords_at : (group : List ℕ) (words : List (List ℕ)) (n k : ℕ) → n ≡ k → HoldsWords group words n → HoldsWords group words k
HoldsWords_at group words n k same held = subst (HoldsWords group words) same held

-- one word more of each block
pub HoldsWords_more : (group : List ℕ) (words : List (List ℕ)) (t : ℕ) (word : List ℕ) → t < 64 → HoldsWords group words t → word ≡ words_at group t
    → HoldsWords group (slice_set words t word) (t + 1)
HoldsWords_more group words t word within held is_word =
    let long : length words ≡ 64 = held.long in
    record {
      long = length-set words t word ∙ long;
      each = λ k below. elim (cases_lt k t) [
        | inl before ↦ get_or-set_other words t k word [] (omega arith) ∙ held.each k before
        | inr here ↦
            let same : t ≡ k = omega arith in
            subst (λ (j : ℕ). get_or (slice_set words t word) j [] ≡ words_at group j) same (get_or-set_same words t word [] (omega arith) ∙ is_word)
      ];
    }

-- a word that the block itself has
schedule_word_first : (group : List ℕ) (t n : ℕ) → t < 16 → schedule_word group t n ≡ word_at (block_at group n) (4 * t)
unfolding schedule_word
schedule_word_first group t n early = slice_index-schedule_first (block_at group n) 48 t early

-- a byte of a block
slice_index-block_at : (group : List ℕ) (n k : ℕ) → k < 64 → slice_index (block_at group n) k ≡ slice_index group (n * 64 + k)
slice_index-block_at group n k below = get_or-take 64 (drop (n * 64) group) k 0 below ∙ get_or-drop (n * 64) group k 0

-- a word of a block, in its group
word_at-block_at : (group : List ℕ) (n t : ℕ) → t < 16 → word_at (block_at group n) (4 * t) ≡ word_at group (n * 64 + 4 * t)
word_at-block_at group n t early =
    let byte : (j : ℕ) → j < 4 → slice_index (block_at group n) (4 * t + j) ≡ slice_index group (n * 64 + 4 * t + j) =
    λ j below. slice_index-block_at group n (4 * t + j) (omega arith) ∙ ap (λ (i : ℕ). slice_index group i) (omega arith) in
    let first : slice_index (block_at group n) (4 * t) ≡ slice_index group (n * 64 + 4 * t) = slice_index-block_at group n (4 * t) (omega arith) in
    rw (first, byte 1 (omega arith), byte 2 (omega arith), byte 3 (omega arith)) refl

-- the words that the blocks themselves have
pub words_first : (group : List ℕ) (t : ℕ) (a b c d : ℕ) → t < 16 → a ≡ word_at group (4 * t) → b ≡ word_at group (64 + 4 * t) → c ≡ word_at group (128 + 4 * t) → d ≡ word_at group (192 + 4 * t)
    → a ∷ b ∷ c ∷ d ∷ [] ≡ words_at group t
words_first group t a b c d early is_a is_b is_c is_d =
    let word : (n : ℕ) → word_at group (n * 64 + 4 * t) ≡ schedule_word group t n = λ n. sym (schedule_word_first group t n early ∙ word_at-block_at group n t early) in
    let first : word_at group (4 * t) ≡ schedule_word group t 0 = ap (word_at group) (omega arith) ∙ word 0 in
    (λ i. (is_a ∙ first) i ∷ (is_b ∙ word 1) i ∷ (is_c ∙ word 2) i ∷ (is_d ∙ word 3) i ∷ [])

-- a word from those before it
schedule_word_next : (group : List ℕ) (t n : ℕ) → 16 ≤ t → t < 64
    → add32 (add32 (add32 (small_sigma1 (schedule_word group (t - 2) n)) (schedule_word group (t - 7) n)) (small_sigma0 (schedule_word group (t - 15) n))) (schedule_word group (t - 16) n) ≡ schedule_word group t n
unfolding schedule_word
schedule_word_next group t n low high = sym (slice_index-schedule_next (block_at group n) 48 t low (omega arith))

-- the words of four blocks from those before them
pub words_next : (group : List ℕ) (words : List (List ℕ)) (t : ℕ) (s1 s0 : List ℕ) → 16 ≤ t → t < 64 → HoldsWords group words t
    → s1 ≡ map small_sigma1 (get_or words (t - 2) []) → s0 ≡ map small_sigma0 (get_or words (t - 15) [])
    → zip2 add32 (zip2 add32 (zip2 add32 s1 (get_or words (t - 7) [])) s0) (get_or words (t - 16) []) ≡ words_at group t
words_next group words t s1 s0 low high held is_s1 is_s0 =
    let w1 : s1 ≡ map small_sigma1 (words_at group (t - 2)) = is_s1 ∙ ap (map small_sigma1) (held.each (t - 2) (omega arith)) in
    let w0 : s0 ≡ map small_sigma0 (words_at group (t - 15)) = is_s0 ∙ ap (map small_sigma0) (held.each (t - 15) (omega arith)) in
    let w7 = held.each (t - 7) (omega arith) in
    let w16 = held.each (t - 16) (omega arith) in
    (λ i. zip2 add32 (zip2 add32 (zip2 add32 (w1 i) (w7 i)) (w0 i)) (w16 i))
    ∙ (λ i. schedule_word_next group t 0 low high i ∷ schedule_word_next group t 1 low high i ∷ schedule_word_next group t 2 low high i ∷ schedule_word_next group t 3 low high i ∷ [])

-- no constant is added yet
pub HoldsSums_none : (group : List ℕ) (words : List (List ℕ)) → HoldsWords group words 64 → HoldsSums group words 0
HoldsSums_none group words held = record { long = held.long; summed = λ t below. absurd (omega arith); left = λ t above below. held.each t below }

-- the same sums, counted another way
pub HoldsSums_at : (group : List ℕ) (words : List (List ℕ)) (n k : ℕ) → n ≡ k → HoldsSums group words n → HoldsSums group words k
HoldsSums_at group words n k same held = subst (HoldsSums group words) same held

-- the constant of one word more
pub HoldsSums_more : (group : List ℕ) (words : List (List ℕ)) (t constant : ℕ) → t < 64 → constant ≡ slice_index round_constants t → HoldsSums group words t
    → HoldsSums group (slice_set words t (zip2 add32 (get_or words t []) (replicate 4 constant))) (t + 1)
HoldsSums_more group words t constant within is_constant held =
    let long : length words ≡ 64 = held.long in
    let sum : List ℕ = zip2 add32 (get_or words t []) (replicate 4 constant) in
    let is_sum : sum ≡ sums_at group t = (λ i. zip2 add32 (held.left t (omega arith) within i) (replicate 4 (is_constant i))) in
    record {
      long = length-set words t sum ∙ long;
      summed = λ k below. elim (cases_lt k t) [
        | inl before ↦ get_or-set_other words t k sum [] (omega arith) ∙ held.summed k before
        | inr here ↦
            let same : t ≡ k = omega arith in
            subst (λ (j : ℕ). get_or (slice_set words t sum) j [] ≡ sums_at group j) same (get_or-set_same words t sum [] (omega arith) ∙ is_sum)
      ];
      left = λ k above below. get_or-set_other words t k sum [] (omega arith) ∙ held.left k (omega arith) below;
    }

-- a word of one of the blocks, and its constant
pub sum_of_lane : (group : List ℕ) (words : List (List ℕ)) (t n : ℕ) → t < 64 → n < 4 → HoldsSums group words 64
    → slice_index (get_or words t []) n ≡ add32 (slice_index (schedule (block_at group n) 48) t) (slice_index round_constants t)
unfolding schedule_word
sum_of_lane group words t n within below held = ap (λ (word : List ℕ). slice_index word n) (held.summed t within) ∙ at n below
  where
    at : (k : ℕ) → k < 4 → slice_index (sums_at group t) k ≡ add32 (schedule_word group t k) (slice_index round_constants t)
    at zero below = refl
    at (suc zero) below = refl
    at (suc (suc zero)) below = refl
    at (suc (suc (suc zero))) below = refl
    at (suc (suc (suc (suc k)))) below = absurd (omega arith)
