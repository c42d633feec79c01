-- Rounds one after the other, and blocks.
use Rattle.std.proofs.Common.{◌≡◌, ℕ, zero, suc, ◌+◌, ◌*◌, ◌<◌, ◌≤◌, List, [], ◌++◌, length, drop, take, get_or, slice_index, refl, sym, ap, ◌∙◌, arith, add-one, add-suc, add-zero, length-drop}
use Rattle.std.proofs.lemmas.List.{drop-drop, drop_at, length-take-le, take-append-drop}
use Rattle.sha2.specs.Sha256.{add32, compress, hash_after, round, round_constants, rounds, schedule}
use Rattle.sha2.proofs.Absorbing256.{hash_after-append}
use Rattle.rasta_sha256.specs.Lanes.{HoldsSums, block_at}
use Rattle.rasta_sha256.proofs.Lanes.{sum_of_lane}

-- the sum of five, in the order that the code adds them
pub sum_of_five : (h sigma choice constant word : ℕ) → add32 (add32 (add32 h (add32 word constant)) choice) sigma ≡ add32 (add32 (add32 (add32 h sigma) choice) constant) word
sum_of_five h sigma choice constant word = omega arith

-- one round more of the block at a lane
pub rounds_more : (group hash variables next : List ℕ) (words : List (List ℕ)) (lane t : ℕ) → lane < 4 → t < 64 → HoldsSums group words 64
    → variables ≡ rounds hash (schedule (block_at group lane) 48) t
    → ((constant word : ℕ) → slice_index (get_or words t []) lane ≡ add32 word constant → next ≡ round variables constant word)
    → next ≡ rounds hash (schedule (block_at group lane) 48) (t + 1)
unfolding rounds
rounds_more group hash variables next words lane t below within held before is_next =
    let word : ℕ = slice_index (schedule (block_at group lane) 48) t in
    let constant : ℕ = slice_index round_constants t in
    rw add-one (is_next constant word (sum_of_lane group words t lane within below held) ∙ ap (λ (v : List ℕ). round v constant word) before)

-- the same rounds, counted another way
pub rounds_at : (hash words variables : List ℕ) (n k : ℕ) → n ≡ k → variables ≡ rounds hash words n → variables ≡ rounds hash words k
rounds_at hash words variables n k same held = held ∙ ap (rounds hash words) same

-- one block more
pub hash_after-more : (hash bytes : List ℕ) (n : ℕ) → hash_after hash bytes (n + 1) ≡ compress (hash_after hash bytes n) (block_at bytes n)
unfolding hash_after
hash_after-more hash bytes n = rw add-one refl

-- blocks, and the blocks after them
pub hash_after-later : (hash bytes : List ℕ) (n k : ℕ) → hash_after hash bytes (n + k) ≡ hash_after (hash_after hash bytes n) (drop (n * 64) bytes) k
unfolding hash_after
hash_after-later hash bytes n zero = rw add-zero refl
hash_after-later hash bytes n (suc k) =
    let place : n * 64 + k * 64 ≡ (n + k) * 64 = omega arith in
    let block : take 64 (drop ((n + k) * 64) bytes) ≡ take 64 (drop (k * 64) (drop (n * 64) bytes)) =
    ap (take 64) (sym (drop-drop (k * 64) (n * 64) bytes ∙ ap (λ (i : ℕ). drop i bytes) place)) in
    rw add-suc (λ i. compress (hash_after-later hash bytes n k i) (block i))

-- blocks of the front of a message
pub hash_after-front : (hash bytes front : List ℕ) (n k : ℕ) → n * 64 ≤ k → k ≤ length bytes → front ≡ take k bytes → hash_after hash front n ≡ hash_after hash bytes n
hash_after-front hash bytes front n k enough within is_front =
    ap (λ (x : List ℕ). hash_after hash x n) is_front
    ∙ sym (hash_after-append hash (take k bytes) (drop k bytes) n (omega (arith, length-take-le k bytes within)))
    ∙ ap (λ (x : List ℕ). hash_after hash x n) (take-append-drop k bytes)

-- the blocks of two messages end to end
pub hash_after-both : (hash first second : List ℕ) (n k : ℕ) → length first ≡ n * 64 → hash_after hash (first ++ second) (n + k) ≡ hash_after (hash_after hash first n) second k
hash_after-both hash first second n k size =
    hash_after-later hash (first ++ second) n k
    ∙ (λ i. hash_after (hash_after-append hash first second n (omega arith) i) (drop_at first second (n * 64) size i) k)

-- blocks of the middle of a message, after those before them
pub hash_after-middle : (hash now bytes middle : List ℕ) (n k size : ℕ) → k * 64 ≤ size → n * 64 + size ≤ length bytes → middle ≡ take size (drop (n * 64) bytes)
    → now ≡ hash_after hash bytes n → hash_after now middle k ≡ hash_after hash bytes (n + k)
hash_after-middle hash now bytes middle n k size enough within is_middle before =
    hash_after-front now (drop (n * 64) bytes) middle k size enough (omega (arith, length-drop (n * 64) bytes)) is_middle
    ∙ ap (λ (h : List ℕ). hash_after h (drop (n * 64) bytes) k) before
    ∙ sym (hash_after-later hash bytes n k)
