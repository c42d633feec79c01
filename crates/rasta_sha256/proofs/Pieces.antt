-- What is kept of a message when a piece more comes in.
use Rattle.std.proofs.Common.{◌≡◌, ℕ, ◌+◌, ◌*◌, ◌/◌, ◌%◌, ◌^◌, ◌<◌, ◌≤◌, List, [], ◌++◌, length, take, drop, refl, sym, ap, ◌∙◌, arith, length-append, length-drop}
use Rattle.std.proofs.lemmas.List.{append-nil, append_assoc, take-append-drop, length-take-le, drop-drop, drop_all, drop_at}
use Rattle.sha2.specs.Sha256.{hash_after, initial_hash_256}
use Rattle.rasta_sha256.specs.Progress.{Progress, after_groups, holding, past_groups}
use Rattle.rasta_sha256.proofs.Blocks.{hash_after-both}
use borrow.Rule.Slice.PartMut.{put_mid, post_of}

-- a message short of a group leaves the hash value as it is
pub after_groups_short : (hash message : List ℕ) → length message < 256 → after_groups hash message ≡ hash
unfolding hash_after
after_groups_short hash message short = let none : length message / 256 * 4 ≡ 0 = omega arith in rw none refl

-- whole groups, and what comes after them
pub after_groups-append : (hash groups rest : List ℕ) (a : ℕ) → length groups ≡ a * 256
    → after_groups hash (groups ++ rest) ≡ after_groups (after_groups hash groups) rest
after_groups-append hash groups rest a size =
    let both : length (groups ++ rest) ≡ length groups + length rest = length-append groups rest in
    let first : length groups / 256 * 4 ≡ a * 4 = omega arith in
    let count : length (groups ++ rest) / 256 * 4 ≡ a * 4 + length rest / 256 * 4 = omega arith in
    rw (count, first) (hash_after-both hash groups rest (a * 4) (length rest / 256 * 4) (omega arith))

pub past_groups-append : (groups rest : List ℕ) (a : ℕ) → length groups ≡ a * 256 → past_groups (groups ++ rest) ≡ past_groups rest
past_groups-append groups rest a size =
    let both : length (groups ++ rest) ≡ length groups + length rest = length-append groups rest in
    let count : length (groups ++ rest) / 256 * 256 ≡ a * 256 + length rest / 256 * 256 = omega arith in
    ap (λ (n : ℕ). drop n (groups ++ rest)) count
    ∙ sym (drop-drop (length rest / 256 * 256) (a * 256) (groups ++ rest))
    ∙ ap (drop (length rest / 256 * 256)) (drop_at groups rest (a * 256) size)

-- the whole groups of a message
module _ (m : List ℕ) where
  abbrev pub whole : List ℕ
  whole = take (length m / 256 * 256) m

  pub length-whole : length whole ≡ length m / 256 * 256
  length-whole = length-take-le (length m / 256 * 256) m (omega arith)

  pub whole-past : whole ++ past_groups m ≡ m
  whole-past = take-append-drop (length m / 256 * 256) m

  pub length-past : length (past_groups m) ≡ length m % 256
  length-past = omega (arith, length-drop (length m / 256 * 256) m)

  pub after_groups-whole : (hash : List ℕ) → after_groups hash m ≡ after_groups hash whole
  after_groups-whole hash =
      let short : length (past_groups m) < 256 = omega (arith, length-past) in
      ap (after_groups hash) (sym whole-past) ∙ after_groups-append hash whole (past_groups m) (length m / 256) length-whole
      ∙ after_groups_short (after_groups hash whole) (past_groups m) short

  -- the message and what comes after it, from its whole groups on
  pub parts : (more : List ℕ) → m ++ more ≡ whole ++ (past_groups m ++ more)
  parts more = ap (λ (z : List ℕ). z ++ more) (sym whole-past) ∙ append_assoc whole (past_groups m) more

  -- the hash value after a message and a piece more is that after what waits and the piece
  after_groups-after : (hash more : List ℕ) → after_groups hash (m ++ more) ≡ after_groups (after_groups hash m) (past_groups m ++ more)
  after_groups-after hash more =
      ap (after_groups hash) (parts more) ∙ after_groups-append hash whole (past_groups m ++ more) (length m / 256) length-whole
      ∙ ap (λ (h : List ℕ). after_groups h (past_groups m ++ more)) (sym (after_groups-whole hash))

  past_groups-after : (more : List ℕ) → past_groups (m ++ more) ≡ past_groups (past_groups m ++ more)
  past_groups-after more = ap past_groups (parts more) ∙ past_groups-append whole (past_groups m ++ more) (length m / 256) length-whole

-- what is kept after a piece more follows from what was kept and the piece
pub holding_more : (m d : List ℕ) (s : Progress) → s ≡ holding m
    → record { hash = after_groups s.hash (s.waiting ++ d); waiting = past_groups (s.waiting ++ d); count = (s.count + length d) % 2 ^ 64 } ≡ holding (m ++ d)
unfolding holding
holding_more m d s held =
    let hash = after_groups-after m initial_hash_256 d in
    let waiting = past_groups-after m d in
    let count : (length m % 2 ^ 64 + length d) % 2 ^ 64 ≡ length (m ++ d) % 2 ^ 64 = omega (arith, length-append m d) in
    rw (held, hash, waiting, ← count) refl

-- a buffer filled up to its end
pub put_mid-end : (xs ys : List ℕ) (k n : ℕ) → length xs ≡ k + n → put_mid k n xs ys ≡ take k xs ++ ys
put_mid-end xs ys k n len =
    let none : post_of k n xs ≡ [] = drop_all n (drop k xs) (omega (arith, length-drop k xs)) in
    ap (λ (z : List ℕ). take k xs ++ (ys ++ z)) none ∙ ap (λ (z : List ℕ). take k xs ++ z) (append-nil ys)

-- bytes that fill up a group, and more after them
module _ (t d b : List ℕ) (n : ℕ) (is_group : b ≡ t ++ take n d) (sum : length t + n ≡ 256) (fits : n ≤ length d) where
  filled : t ++ d ≡ b ++ drop n d
  filled =
      ap (λ (z : List ℕ). t ++ z) (sym (take-append-drop n d)) ∙ sym (append_assoc t (take n d) (drop n d))
      ∙ ap (λ (z : List ℕ). z ++ drop n d) (sym is_group)

  length-filled : length b ≡ 256
  length-filled = ap length is_group ∙ length-append t (take n d) ∙ ap (λ (i : ℕ). length t + i) (length-take-le n d fits) ∙ sum

  -- the group is worked off first
  pub after_groups_filled : (hash : List ℕ) → after_groups (hash_after hash b 4) (drop n d) ≡ after_groups hash (t ++ d)
  after_groups_filled hash =
      let one : length b / 256 * 4 ≡ 4 = omega (arith, length-filled) in
      sym (ap (after_groups hash) filled ∙ after_groups-append hash b (drop n d) 1 length-filled
      ∙ ap (λ (i : ℕ). after_groups (hash_after hash b i) (drop n d)) one)

  pub past_groups_filled : past_groups (drop n d) ≡ past_groups (t ++ d)
  past_groups_filled = sym (ap past_groups filled ∙ past_groups-append b (drop n d) 1 length-filled)
