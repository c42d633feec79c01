-- The message schedules of four blocks side by side.
use Rattle.std.specs.Prelude.{◌≡◌, ℕ, ◌*◌, ◌<◌, ◌≤◌, List, [], ◌∷◌, length, map, take, drop, slice_index, get_or}
use Rattle.sha2.specs.Sha256.{add32, round_constants, schedule}

-- block n of a message's bytes
abbrev pub block_at : List ℕ → ℕ → List ℕ
block_at bytes n = take 64 (drop (n * 64) bytes)

-- word t of the schedule of block n
unfoldable pub schedule_word : List ℕ → ℕ → ℕ → ℕ
schedule_word bytes t n = slice_index (schedule (block_at bytes n) 48) t

-- word t of the schedules of the four blocks of a group
abbrev pub words_at : List ℕ → ℕ → List ℕ
words_at group t =
    schedule_word group t 0 ∷ schedule_word group t 1 ∷ schedule_word group t 2 ∷ schedule_word group t 3 ∷ []

-- the first n words of the schedules of a group
pub record HoldsWords (group : List ℕ) (words : List (List ℕ)) (n : ℕ) : Type 0 where
  pub long : length words ≡ 64
  pub each : (t : ℕ) → t < n → get_or words t [] ≡ words_at group t

-- word t of the schedules of the four blocks of a group, with constant t added
abbrev pub sums_at : List ℕ → ℕ → List ℕ
sums_at group t = map (λ word. add32 word (slice_index round_constants t)) (words_at group t)

-- the words of the schedules of a group, with the constant added to the first n
pub record HoldsSums (group : List ℕ) (words : List (List ℕ)) (n : ℕ) : Type 0 where
  pub long : length words ≡ 64
  pub summed : (t : ℕ) → t < n → get_or words t [] ≡ sums_at group t
  pub left : (t : ℕ) → n ≤ t → t < 64 → get_or words t [] ≡ words_at group t
