-- The padding, and the bytes that wait before it.
use Rattle.std.proofs.Common.{◌≡◌, ℕ, suc, ◌+◌, ◌-◌, ◌*◌, ◌%◌, ◌^◌, List, ◌∷◌, ◌++◌, length, take, drop, set, replicate, refl, sym, ap, ◌∙◌, arith, length-append}
use Rattle.std.proofs.lemmas.List.{append_assoc, drop-replicate, length-replicate, replicate-append-replicate, set_at, take_at}
use Rattle.byteorder.specs.Endian.{little_bytes}
use Rattle.byteorder.specs.Numbers.{length-bytes_low_first}
use Rattle.rasta_md4.specs.Md4.{padding}
use borrow.Rule.Slice.PartMut.{put_mid, post_of}

-- how many bytes the padding has
pub length-padding : (n : ℕ) → length (padding n) ≡ (119 - n % 64) % 64 + 9
unfolding padding
length-padding n = simp (length-append, length-replicate) (omega arith)

-- the padded message ends at the end of a block
pub padding_whole : (n : ℕ) → (n + length (padding n)) % 64 ≡ 0
padding_whole n = let e = length-padding n in omega arith

-- the padding reads the count of a message modulo 2 ^ 64 alone
pub padding-mod : (n : ℕ) → padding (n % 2 ^ 64) ≡ padding n
unfolding padding
padding-mod n =
    let zeros : n % 2 ^ 64 % 64 ≡ n % 64 = omega arith in
    let field : 8 * (n % 2 ^ 64) % 2 ^ 64 ≡ 8 * n % 2 ^ 64 = omega arith in
    rw (zeros, field) refl

-- two groupings of four lists end to end
regrouped : (a b c d : List ℕ) → a ++ ((b ++ c) ++ d) ≡ (a ++ b) ++ (c ++ d)
regrouped a b c d = ap (λ (z : List ℕ). a ++ z) (append_assoc b c d) ∙ sym (append_assoc a b (c ++ d))

-- the byte 80 laid after the bytes that wait, in 128 zeros
padded_marked : (waiting front : List ℕ) (zeros more : ℕ) → front ≡ waiting → 128 - length waiting ≡ suc (zeros + more)
    → set (front ++ drop (length waiting) (replicate {A = ℕ} 128 0)) (length waiting) 0x80 ≡ (waiting ++ 0x80 ∷ replicate zeros 0) ++ replicate more 0
padded_marked waiting front zeros more begun left =
    let after : drop (length waiting) (replicate {A = ℕ} 128 0) ≡ 0 ∷ replicate (zeros + more) 0 =
    drop-replicate (length waiting) 128 0 ∙ ap (λ (i : ℕ). replicate i 0) left in
    rw (begun, after, set_at waiting 0 (replicate (zeros + more) 0) 0x80 (length waiting) refl, append_assoc, replicate-append-replicate) refl

-- the bytes that wait, the byte 80, zeros and the length field, as they are laid into 128 zeros
pub padded_tail : (waiting front field rest : List ℕ) (n f k : ℕ) → length waiting ≡ n % 64 → f + 8 ≡ n % 64 + length (padding (n % 64)) → front ≡ waiting
    → field ≡ little_bytes 8 (n * 8 % 2 ^ 64) ++ rest
    → take (n % 64 + length (padding n)) (put_mid f k (set (front ++ drop (length waiting) (replicate 128 0)) (length waiting) 0x80) field) ≡ waiting ++ padding n
unfolding padding
padded_tail waiting front field rest n f k len last begun spelled =
    let zeros : ℕ = (119 - n % 64) % 64 in
    let more : ℕ = 127 - (length waiting + zeros) in
    let size = length-padding (n % 64) in
    let body : List ℕ = waiting ++ 0x80 ∷ replicate zeros 0 in
    let long : length body ≡ f = simp (length-append, length-replicate) (omega arith) in
    let left : 128 - length waiting ≡ suc (zeros + more) = omega arith in
    let bits : n * 8 % 2 ^ 64 ≡ 8 * n % 2 ^ 64 = omega arith in
    let zero_list : List ℕ = replicate more 0 in
    let marked : set (front ++ drop (length waiting) (replicate {A = ℕ} 128 0)) (length waiting) 0x80 ≡ body ++ zero_list = padded_marked waiting front zeros more begun left in
    let eight : List ℕ = little_bytes 8 (8 * n % 2 ^ 64) in
    let after : List ℕ = post_of f k (body ++ zero_list) in
    let spelled' : field ≡ eight ++ rest = spelled ∙ ap (λ (i : ℕ). little_bytes 8 i ++ rest) bits in
    let placed : put_mid f k (body ++ zero_list) field ≡ (body ++ eight) ++ (rest ++ after) =
    ap (λ (z : List ℕ). z ++ (field ++ after)) (take_at body zero_list f long)
    ∙ ap (λ (z : List ℕ). body ++ (z ++ after)) spelled' ∙ regrouped body eight rest after in
    let width : length eight ≡ 8 = length-bytes_low_first 0 8 (8 * n % 2 ^ 64) in
    let same = length-padding n in
    let end : length (body ++ eight) ≡ n % 64 + length (padding n) = length-append body eight ∙ omega arith in
    ap (λ (z : List ℕ). take (n % 64 + length (padding n)) (put_mid f k z field)) marked
    ∙ ap (take (n % 64 + length (padding n))) placed
    ∙ take_at (body ++ eight) (rest ++ after) (n % 64 + length (padding n)) end
    ∙ append_assoc waiting (0x80 ∷ replicate zeros 0) eight
