-- What holds of each digest, and two digests of RFC 1320's test suite (section A.5), so that a wrong
-- row of the table, a wrong padding or a wrong order of bytes in the definition does not check.
use Rattle.std.proofs.Common.{◌≡◌, ℕ, zero, suc, ◌*◌, ◌<◌, List, [], ◌∷◌, ◌++◌, length, refl, ap, ◌∙◌, arith, codes, length-append}
use Rattle.std.specs.Prelude.{fold, slice_index}
use Rattle.std.specs.List.{flat_map}
use Rattle.byteorder.specs.Endian.{little_bytes}
use Rattle.rasta_md4.specs.Md4.{block_at, blocks, compress, md4, padding, round_1, round_2, round_3, step, start_words}
use Rattle.rasta_md4.proofs.Blocks.{length-blocks}
use Rattle.rasta_md4.proofs.Padding.{padding_whole, length-padding}

-- a block leaves four registers
length-compress : (r block : List ℕ) → length (compress r block) ≡ 4
unfolding compress
length-compress r block = refl

-- four registers stay four over any blocks
length-fold-compress : (r : List ℕ) (bs : List (List ℕ)) → length r ≡ 4 → length (fold compress r bs) ≡ 4
length-fold-compress r [] four = four
length-fold-compress r (b ∷ bs) four = length-fold-compress (compress r b) bs (length-compress r b)

-- one block or more leave four registers, whatever the start words
length-registers : (r : List ℕ) (bs : List (List ℕ)) → 0 < length bs → length (fold compress r bs) ≡ 4
length-registers r [] some = absurd (omega arith)
length-registers r (b ∷ bs) some = length-fold-compress (compress r b) bs (length-compress r b)

-- words written out have four bytes each
length-words : (ws : List ℕ) → length (flat_map (little_bytes 4) ws) ≡ 4 * length ws
length-words [] = refl
length-words (w ∷ ws) = let rest = length-words ws in omega arith

-- a padded message has a block at least
blocks_some : (message : List ℕ) → 0 < length (blocks (message ++ padding (length message)))
blocks_some message =
    let count = length-blocks (message ++ padding (length message)) in
    let all = length-append message (padding (length message)) in
    let whole = padding_whole (length message) in
    let pad = length-padding (length message) in
    omega arith

-- a digest has sixteen bytes
pub length-md4 : (words message : List ℕ) → length (md4 words message) ≡ 16
unfolding md4
length-md4 words message =
    length-words _ ∙ ap (λ (n : ℕ). 4 * n) (length-registers words (blocks (message ++ padding (length message))) (blocks_some message))

-- words written out are bytes; past their end a read gives 0
byte-words : (ws : List ℕ) (i : ℕ) → slice_index (flat_map (little_bytes 4) ws) i < 256
byte-words [] i = omega arith
byte-words (w ∷ ws) zero = omega arith
byte-words (w ∷ ws) (suc zero) = omega arith
byte-words (w ∷ ws) (suc (suc zero)) = omega arith
byte-words (w ∷ ws) (suc (suc (suc zero))) = omega arith
byte-words (w ∷ ws) (suc (suc (suc (suc i)))) = byte-words ws i

-- a digest is made of bytes
pub byte-md4 : (words message : List ℕ) (i : ℕ) → slice_index (md4 words message) i < 256
unfolding md4
byte-md4 words message i = byte-words _ i

-- a448017aaf21d8525fc10ae87aa6729d
pub digest_of_abc : md4 start_words (codes "abc") ≡ 0xa4 ∷ 0x48 ∷ 0x01 ∷ 0x7a ∷ 0xaf ∷ 0x21 ∷ 0xd8 ∷ 0x52 ∷ 0x5f ∷ 0xc1 ∷ 0x0a ∷ 0xe8 ∷ 0x7a ∷ 0xa6 ∷ 0x72 ∷ 0x9d ∷ []
unfolding md4 padding blocks block_at compress step round_1 round_2 round_3
digest_of_abc = refl

-- 043f8582f241db351ce627e153e7f0e4, of 62 bytes, whose padding takes a second block
pub digest_of_two_blocks : md4 start_words (codes "ABCDEFGHIJKLMNOPQRSTUVWXYZabcdefghijklmnopqrstuvwxyz0123456789") ≡ 0x04 ∷ 0x3f ∷ 0x85 ∷ 0x82 ∷ 0xf2 ∷ 0x41 ∷ 0xdb ∷ 0x35 ∷ 0x1c ∷ 0xe6 ∷ 0x27 ∷ 0xe1 ∷ 0x53 ∷ 0xe7 ∷ 0xf0 ∷ 0xe4 ∷ []
unfolding md4 padding blocks block_at compress step round_1 round_2 round_3
digest_of_two_blocks = refl
