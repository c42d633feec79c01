-- A read behind what stands in a memory.
use Rattle.std.proofs.Common.{◌≡◌, ◌∙◌, ℕ, ◌+◌, ◌-◌, ◌≤◌, List, ◌++◌, add-zero, append-nil, append_assoc, zero-le, length, length-append, length-take, length-take-le, slice_range, take, drop, drop_at, drop-drop, Option, None, Some, sym, ap, arith}
use Rattle.std.specs.Io.KnownBytes.{Consumes, Keeps, prepend_known}
use Rattle.std.proofs.lemmas.List.{drop-take}
use borrow.Rule.Slice.PartMut.{put_mid, post_of}
use lib.Seq.{drop-append-le, take-take, take-add, take-append-le, take-append_seam}

-- what stood there, and what was read
pub filled_more : (a k n : ℕ) (xs ys : List ℕ) → a ≤ length xs → n ≤ length ys → take (a + n) (put_mid a k xs ys) ≡ take a xs ++ take n ys
filled_more a k n xs ys within fits =
    let front = take a xs in
    let after = post_of a k xs in
    let size : length front ≡ a = length-take-le a xs within in
    take-add a n (front ++ (ys ++ after))
    ∙ ap (λ m. take m (front ++ (ys ++ after)) ++ take n (drop a (front ++ (ys ++ after)))) (sym size)
    ∙ ap (λ l. l ++ take n (drop a (front ++ (ys ++ after)))) (take-append_seam front (ys ++ after))
    ∙ ap (λ l. front ++ take n l) (drop_at front (ys ++ after) a size)
    ∙ ap (λ l. front ++ l) (take-append-le n ys after fits)

-- the same where the memory keeps its length
pub filled_within : (a k n len : ℕ) (xs ys more : List ℕ) → a ≤ length xs → n ≤ length ys → a + n ≤ len
    → take (a + n) (take len (put_mid a k xs ys ++ more)) ≡ take a xs ++ take n ys
filled_within a k n len xs ys more within fits room =
    let front = take a xs in
    let after = post_of a k xs in
    let size : length front ≡ a = length-take-le a xs within in
    let whole : length (front ++ (ys ++ after)) ≡ length front + length (ys ++ after) = length-append front (ys ++ after) in
    let part : length (ys ++ after) ≡ length ys + length after = length-append ys after in
    take-take (a + n) len (put_mid a k xs ys ++ more) room
    ∙ take-append-le (a + n) (put_mid a k xs ys) more (omega (arith, size, whole, part))
    ∙ filled_more a k n xs ys within fits

-- a part without the front of the memory
part_of : (xs : List ℕ) (a b : ℕ) → a ≤ b → slice_range xs a b ≡ drop a (take b xs)
part_of xs a b h =
    let whole : b ≡ a + (b - a) = omega arith in
    sym (ap (λ k. drop a (take k xs)) whole ∙ drop-take a (b - a) xs)

-- what was read stands behind the part that stood there
pub filled_part : (a b k n len : ℕ) (xs ys more : List ℕ) → a ≤ b → b ≤ length xs → n ≤ length ys → b + n ≤ len
    → slice_range (take len (put_mid b k xs ys ++ more)) a (b + n) ≡ slice_range xs a b ++ take n ys
filled_part a b k n len xs ys more ordered within fits room =
    let size : length (take b xs) ≡ b = length-take-le b xs within in
    part_of (take len (put_mid b k xs ys ++ more)) a (b + n) (omega arith)
    ∙ ap (drop a) (filled_within b k n len xs ys more within fits room)
    ∙ drop-append-le a (take b xs) (take n ys) (omega (arith, size))
    ∙ ap (λ l. l ++ take n ys) (sym (part_of xs a b ordered))

-- where nothing was read, that part is the same
pub filled_none : (a b k len : ℕ) (xs ys more : List ℕ) → a ≤ b → b ≤ length xs → b ≤ len → slice_range (take len (put_mid b k xs ys ++ more)) a b ≡ slice_range xs a b
filled_none a b k len xs ys more ordered within room =
    ap (λ n. slice_range (take len (put_mid b k xs ys ++ more)) a n) (sym (add-zero b))
    ∙ filled_part a b k 0 len xs ys more ordered within zero-le (omega (arith, room))
    ∙ append-nil (slice_range xs a b)

-- what is left of a part where its first bytes are passed
pub passed_part : (xs : List ℕ) (a b n : ℕ) → n ≤ length (slice_range xs a b) → slice_range xs (a + n) b ≡ drop n (slice_range xs a b)
passed_part xs a b n h =
    let size = length-take (b - a) (drop a xs) in
    let whole : b - a ≡ n + (b - (a + n)) = omega (arith, size, h) in
    sym (ap (λ k. drop n (take k (drop a xs))) whole ∙ drop-take n (b - (a + n)) (drop a xs) ∙ ap (take (b - (a + n))) (drop-drop n a xs))

-- what was read stands behind what stood there
pub Keeps-more : (old new : Option (List ℕ)) (front more : List ℕ) → Consumes old new more → Keeps (prepend_known front old) (prepend_known (front ++ more) new)
Keeps-more None new front more h = tt
Keeps-more (Some xs) None front more h = absurd h
Keeps-more (Some xs) (Some ys) front more h = append_assoc front more ys ∙ ap (λ l. front ++ l) (sym h)
