-- MD4 (RFC 1320) as a function on lists of numbers, from start words of the caller's choice.
-- A byte is a number below 256 and a word one below 2 ^ 32. A section is one of the RFC's.
use Rattle.std.specs.Prelude.{ℕ, ◌+◌, ◌-◌, ◌*◌, ◌/◌, ◌%◌, ◌^◌, List, [], ◌∷◌, ◌++◌, length, drop, map, fold, replicate}
use Rattle.std.specs.Prelude.{slice_index, bit_and, bit_or, bit_xor}
use Rattle.std.specs.Int.{w32, bit_not, rotate_left}
use Rattle.std.specs.List.{flat_map, range_with_len}
use Rattle.byteorder.specs.Endian.{little_bytes, little_number}

-- the start words of the RFC (section 3.3)
abbrev pub start_words : List ℕ
start_words = 0x67452301 ∷ 0xefcdab89 ∷ 0x98badcfe ∷ 0x10325476 ∷ []

-- ---- the blocks of a message

-- A word is four bytes in a row, the low-order byte first (section 2).
abbrev pub word_at : List ℕ → ℕ → ℕ
word_at message j = little_number 4 (drop (4 * j) message)

-- Block i has the sixteen words from word 16 i on (section 3.4).
unfoldable pub block_at : List ℕ → ℕ → List ℕ
block_at message i = map (word_at message) (range_with_len (16 * i) 16)

-- The blocks of a message, in order; bytes short of a block at its end are in none.
unfoldable pub blocks : List ℕ → List (List ℕ)
blocks message = map (block_at message) (range_with_len 0 (length message / 64))

-- ---- the table of the steps (section 3.4)

-- F, of round 1: in each bit, if x then y else z.
abbrev pub conditional : ℕ → ℕ → ℕ → ℕ
conditional x y z = bit_or (bit_and x y) (bit_and (bit_not w32 x) z)

-- G, of round 2: in each bit, what at least two of x, y and z have.
abbrev pub majority : ℕ → ℕ → ℕ → ℕ
majority x y z = bit_or (bit_or (bit_and x y) (bit_and x z)) (bit_and y z)

-- H, of round 3: in each bit, the parity of x, y and z.
abbrev pub parity : ℕ → ℕ → ℕ → ℕ
parity x y z = bit_xor (bit_xor x y) z

-- A step has a function, a constant, the place of a word in the block, and a shift.
pub record Row : Type 0 where
  pub function : ℕ → ℕ → ℕ → ℕ
  pub constant : ℕ
  pub place : ℕ
  pub shift : ℕ

-- The steps of round 1 take F and no constant.
abbrev pub first : ℕ → ℕ → Row
first place shift = record { function = conditional; constant = 0; place = place; shift = shift }

-- The steps of round 2 take G and the constant 5A827999.
abbrev pub second : ℕ → ℕ → Row
second place shift = record { function = majority; constant = 0x5a827999; place = place; shift = shift }

-- The steps of round 3 take H and the constant 6ED9EBA1.
abbrev pub third : ℕ → ℕ → Row
third place shift = record { function = parity; constant = 0x6ed9eba1; place = place; shift = shift }

-- Round 1: the words in order, the shifts 3, 7, 11 and 19.
unfoldable pub round_1 : List Row
round_1 =
    first 0 3 ∷ first 1 7 ∷ first 2 11 ∷ first 3 19
    ∷ first 4 3 ∷ first 5 7 ∷ first 6 11 ∷ first 7 19
    ∷ first 8 3 ∷ first 9 7 ∷ first 10 11 ∷ first 11 19
    ∷ first 12 3 ∷ first 13 7 ∷ first 14 11 ∷ first 15 19 ∷ []

-- Round 2: each fourth word, from word 0, 1, 2 and 3 on, the shifts 3, 5, 9 and 13.
unfoldable pub round_2 : List Row
round_2 =
    second 0 3 ∷ second 4 5 ∷ second 8 9 ∷ second 12 13
    ∷ second 1 3 ∷ second 5 5 ∷ second 9 9 ∷ second 13 13
    ∷ second 2 3 ∷ second 6 5 ∷ second 10 9 ∷ second 14 13
    ∷ second 3 3 ∷ second 7 5 ∷ second 11 9 ∷ second 15 13 ∷ []

-- Round 3: the words in the order of their places' four bits read backwards, the shifts 3, 9, 11
-- and 15.
unfoldable pub round_3 : List Row
round_3 =
    third 0 3 ∷ third 8 9 ∷ third 4 11 ∷ third 12 15
    ∷ third 2 3 ∷ third 10 9 ∷ third 6 11 ∷ third 14 15
    ∷ third 1 3 ∷ third 9 9 ∷ third 5 11 ∷ third 13 15
    ∷ third 3 3 ∷ third 11 9 ∷ third 7 11 ∷ third 15 15 ∷ []

-- The table: the 48 steps in order.
abbrev pub table : List Row
table = round_1 ++ round_2 ++ round_3

-- ---- the digest

-- [abcd k s]: a = (a + f(b,c,d) + X[k] + constant) <<< s, modulo 2 ^ 32. The registers' roles then
-- move on by one: [abcd], [dabc], [cdab], [bcda].
unfoldable pub step : List ℕ → List ℕ → Row → List ℕ
step block registers row =
    let a : ℕ = slice_index registers 0 in
    let b : ℕ = slice_index registers 1 in
    let c : ℕ = slice_index registers 2 in
    let d : ℕ = slice_index registers 3 in
    let total : ℕ = a + row.function b c d + slice_index block row.place + row.constant in
    d ∷ rotate_left w32 (total % 2 ^ 32) row.shift ∷ b ∷ c ∷ []

-- The registers after a block: each is increased by the value it had before the block.
abbrev pub increased : List ℕ → List ℕ → List ℕ
increased before after =
    (slice_index before 0 + slice_index after 0) % 2 ^ 32
    ∷ (slice_index before 1 + slice_index after 1) % 2 ^ 32
    ∷ (slice_index before 2 + slice_index after 2) % 2 ^ 32
    ∷ (slice_index before 3 + slice_index after 3) % 2 ^ 32 ∷ []

-- A block is worked off by the steps of the table in order, and that addition.
unfoldable pub compress : List ℕ → List ℕ → List ℕ
compress registers block = increased registers (fold (step block) registers table)

-- The padding of a message of n bytes: the byte 80, zeros up to 56 bytes modulo 64 (as many as 55 - n
-- modulo 64), and the low-order 64 bits of the message's length in bits, low-order byte first
-- (sections 3.1 and 3.2).
unfoldable pub padding : ℕ → List ℕ
padding n = 0x80 ∷ replicate ((119 - n % 64) % 64) 0 ++ little_bytes 8 (8 * n % 2 ^ 64)

-- The digest: the registers begin as the start words, the blocks of the padded message are worked
-- off in order, and the registers are written out, low-order byte first (section 3.5).
unfoldable pub md4 : List ℕ → List ℕ → List ℕ
md4 words message = flat_map (little_bytes 4) (fold compress words (blocks (message ++ padding (length message))))
