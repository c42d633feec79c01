-- The padding, and the bytes that wait before it.
use Rattle.std.proofs.Common.{◌≡◌, ℕ, suc, ◌+◌, ◌-◌, ◌*◌, ◌%◌, ◌^◌, List, ◌∷◌, ◌++◌, length, take, drop, set, replicate, refl, sym, ap, ◌∙◌, arith, length-append}
use Rattle.std.proofs.lemmas.List.{append_assoc, drop-replicate, length-replicate, replicate-append-replicate, set_at, take_at}
use Rattle.std.specs.Int.{to_be_bytes, w64}
use Rattle.sha2.specs.Sha256.{padding}
use borrow.Rule.Slice.PartMut.{put_mid, post_of}

-- how many bytes the padding has
pub length-padding : (n : ℕ) → length (padding n) ≡ (119 - n % 64) % 64 + 9
length-padding n = simp (length-append, length-replicate) (omega arith)

-- the padding reads the count of a message modulo 2 ^ 64 alone
pub padding-mod : (n : ℕ) → padding (n % 2 ^ 64) ≡ padding n
padding-mod n =
    let zeros : n % 2 ^ 64 % 64 ≡ n % 64 = omega arith in
    let field : n % 2 ^ 64 * 8 % 2 ^ 64 ≡ n * 8 % 2 ^ 64 = omega arith in
    rw (zeros, field) refl

-- the byte 80 laid after the bytes that wait, in 512 zeros
marked : (waiting front : List ℕ) (zeros more : ℕ) → front ≡ waiting → 512 - length waiting ≡ suc (zeros + more)
    → set (front ++ drop (length waiting) (replicate {A = ℕ} 512 0)) (length waiting) 0x80 ≡ (waiting ++ 0x80 ∷ replicate zeros 0) ++ replicate more 0
marked waiting front zeros more begun left =
    let after : drop (length waiting) (replicate {A = ℕ} 512 0) ≡ 0 ∷ replicate (zeros + more) 0 =
    drop-replicate (length waiting) 512 0 ∙ ap (λ (i : ℕ). replicate i 0) left in
    rw (begun, after, set_at waiting 0 (replicate (zeros + more) 0) 0x80 (length waiting) refl, append_assoc, replicate-append-replicate) refl

-- the bytes that wait, the byte 80, zeros and the length field, as they are laid into 512 zeros
pub padded_tail : (waiting front field : List ℕ) (n f k : ℕ) → length waiting ≡ n % 256 → f + 8 ≡ n % 256 + length (padding (n % 256)) → front ≡ waiting
    → field ≡ to_be_bytes w64 (n * 8 % 2 ^ 64)
    → take (n % 256 + length (padding n)) (put_mid f k (set (front ++ drop (length waiting) (replicate 512 0)) (length waiting) 0x80) field) ≡ waiting ++ padding n
padded_tail waiting front field n f k len last begun spelled =
    let zeros : ℕ = (119 - n % 64) % 64 in
    let more : ℕ = 511 - (length waiting + zeros) in
    let size = length-padding (n % 256) in
    let body : List ℕ = waiting ++ 0x80 ∷ replicate zeros 0 in
    let long : length body ≡ f = simp (length-append, length-replicate) (omega arith) in
    let left : 512 - length waiting ≡ suc (zeros + more) = omega arith in
    let zero_list : List ℕ = replicate more 0 in
    let laid = marked waiting front zeros more begun left in
    let eight : List ℕ = to_be_bytes w64 (n * 8 % 2 ^ 64) in
    let after : List ℕ = post_of f k (body ++ zero_list) in
    let placed : put_mid f k (body ++ zero_list) field ≡ (body ++ eight) ++ after =
    ap (λ (z : List ℕ). z ++ (field ++ after)) (take_at body zero_list f long)
    ∙ ap (λ (z : List ℕ). body ++ (z ++ after)) spelled ∙ sym (append_assoc body eight after) in
    let width : length eight ≡ 8 = refl in
    let same = length-padding n in
    let end : length (body ++ eight) ≡ n % 256 + length (padding n) = length-append body eight ∙ omega arith in
    ap (λ (z : List ℕ). take (n % 256 + length (padding n)) (put_mid f k z field)) laid
    ∙ ap (take (n % 256 + length (padding n))) placed
    ∙ take_at (body ++ eight) after (n % 256 + length (padding n)) end
    ∙ append_assoc waiting (0x80 ∷ replicate zeros 0) eight
