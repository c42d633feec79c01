-- The digest, from what is kept of a message.
use Rattle.std.proofs.Common.{◌≡◌, ℕ, ◌+◌, ◌*◌, ◌/◌, ◌%◌, ◌^◌, ◌≤◌, List, [], ◌∷◌, ◌++◌, length, take, refl, sym, ap, ◌∙◌, arith, length-append}
use Rattle.std.specs.List.{flat_map}
use Rattle.byteorder.specs.Endian.{big_bytes}
use Rattle.sha2.specs.Sha256.{digest_bytes, hash_after, initial_hash_256, padding, sha256}
use Rattle.rasta_sha256.specs.Progress.{Progress, after_groups, holding, past_groups}
use Rattle.rasta_sha256.proofs.Blocks.{hash_after-both, hash_after-front}
use Rattle.rasta_sha256.proofs.Padding.{padding-mod}
use Rattle.rasta_sha256.proofs.Pieces.{after_groups-whole, length-past, length-whole, parts, whole}

-- the words of a hash value, high-order byte first
pub digest_bytes_all : (hash : List ℕ) → length hash ≡ 8 → flat_map (big_bytes 4) hash ≡ digest_bytes hash 8
unfolding digest_bytes
digest_bytes_all (a ∷ b ∷ c ∷ d ∷ e ∷ f ∷ g ∷ h ∷ []) long = refl
digest_bytes_all (a ∷ b ∷ c ∷ d ∷ e ∷ f ∷ g ∷ h ∷ i ∷ more) long = absurd (omega (arith, long))
digest_bytes_all (a ∷ b ∷ c ∷ d ∷ e ∷ f ∷ g ∷ []) long = absurd (omega (arith, long))
digest_bytes_all (a ∷ b ∷ c ∷ d ∷ e ∷ f ∷ []) long = absurd (omega (arith, long))
digest_bytes_all (a ∷ b ∷ c ∷ d ∷ e ∷ []) long = absurd (omega (arith, long))
digest_bytes_all (a ∷ b ∷ c ∷ d ∷ []) long = absurd (omega (arith, long))
digest_bytes_all (a ∷ b ∷ c ∷ []) long = absurd (omega (arith, long))
digest_bytes_all (a ∷ b ∷ []) long = absurd (omega (arith, long))
digest_bytes_all (a ∷ []) long = absurd (omega (arith, long))
digest_bytes_all [] long = absurd (omega (arith, long))

-- the digest of a message, from what is kept of it
pub sha256_is : (m tail : List ℕ) (s : Progress) (n : ℕ) → s ≡ holding m → n * 64 ≡ length (s.waiting ++ padding s.count) → n * 64 ≤ length tail
    → take (n * 64) tail ≡ s.waiting ++ padding s.count → digest_bytes (hash_after s.hash tail n) 8 ≡ sha256 m
unfolding holding sha256
sha256_is m tail s n held count within begun =
    let waiting : s.waiting ≡ past_groups m = ap (λ (r : Progress). r.waiting) held in
    let hash : s.hash ≡ after_groups initial_hash_256 m = ap (λ (r : Progress). r.hash) held in
    let total : s.count ≡ length m % 2 ^ 64 = ap (λ (r : Progress). r.count) held in
    let pad : List ℕ = padding (length m) in
    let same_padding : padding s.count ≡ pad = ap padding total ∙ padding-mod (length m) in
    let end : s.waiting ++ padding s.count ≡ past_groups m ++ pad = (λ i. waiting i ++ same_padding i) in
    let groups : ℕ = length m / 256 in
    let size : length (whole m) ≡ groups * 4 * 64 = omega (arith, length-whole m) in
    let first : length (whole m) / 256 * 4 ≡ groups * 4 = omega (arith, length-whole m) in
    let before : s.hash ≡ hash_after initial_hash_256 (whole m) (groups * 4) = hash ∙ after_groups-whole m initial_hash_256 ∙ ap (hash_after initial_hash_256 (whole m)) first in
    let last : n * 64 ≡ length m % 256 + length pad = count ∙ ap length end ∙ length-append (past_groups m) pad ∙ ap (λ (i : ℕ). i + length pad) (length-past m) in
    let blocks : groups * 4 + n ≡ length (m ++ pad) / 64 = omega (arith, length-append m pad) in
    let after : hash_after s.hash tail n ≡ hash_after initial_hash_256 (m ++ pad) (length (m ++ pad) / 64) =
    sym (hash_after-front s.hash tail (past_groups m ++ pad) n (n * 64) (omega arith) within (sym (begun ∙ end)))
    ∙ ap (λ (h : List ℕ). hash_after h (past_groups m ++ pad) n) before
    ∙ sym (hash_after-both initial_hash_256 (whole m) (past_groups m ++ pad) (groups * 4) n size)
    ∙ (λ i. hash_after initial_hash_256 (sym (parts m pad) i) (blocks i)) in
    ap (λ (h : List ℕ). digest_bytes h 8) after
