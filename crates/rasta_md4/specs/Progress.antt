-- What is kept of a message while it comes in pieces.
use Rattle.std.specs.Prelude.{ℕ, ◌*◌, ◌/◌, ◌%◌, ◌^◌, List, length, drop, fold}
use Rattle.rasta_md4.specs.Md4.{blocks, compress}

-- the registers after the whole blocks so far, the bytes after them, and the length of the message
pub record Progress : Type 0 where
  pub registers : List ℕ
  pub waiting : List ℕ
  pub count : ℕ

-- the bytes after the last whole block
abbrev pub past_blocks : List ℕ → List ℕ
past_blocks message = drop (length message / 64 * 64) message

-- what is kept of a message that came after these start words; its length is taken modulo 2 ^ 64,
-- since the padding reads no more of it
unfoldable pub holding : List ℕ → List ℕ → Progress
holding words message = record {
  registers = fold compress words (blocks message);
  waiting = past_blocks message;
  count = length message % 2 ^ 64;
}
