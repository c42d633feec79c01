-- What is kept of a message while it comes in pieces. A group is four blocks.
use Rattle.std.specs.Prelude.{ℕ, ◌*◌, ◌/◌, ◌%◌, ◌^◌, List, length, drop}
use Rattle.sha2.specs.Sha256.{hash_after, initial_hash_256}

-- the hash value after the whole groups so far, the bytes after them, and the length of the message
pub record Progress : Type 0 where
  pub hash : List ℕ
  pub waiting : List ℕ
  pub count : ℕ

-- the hash value after the whole groups of a message
abbrev pub after_groups : List ℕ → List ℕ → List ℕ
after_groups hash message = hash_after hash message (length message / 256 * 4)

-- the bytes after the last whole group
abbrev pub past_groups : List ℕ → List ℕ
past_groups message = drop (length message / 256 * 256) message

-- what is kept of a message; its length is taken modulo 2 ^ 64, since the padding reads no more of it
unfoldable pub holding : List ℕ → Progress
holding message = record {
  hash = after_groups initial_hash_256 message;
  waiting = past_groups message;
  count = length message % 2 ^ 64;
}
