-- Bytes read as numbers, and the numbers' bytes.
use Rattle.std.proofs.Common.{◌≡◌, ℕ, ◌+◌, ◌^◌, ◌<◌, ◌≤◌, List, ◌++◌, length, take, drop, get_or, ap, sym, ◌∙◌, arith, inl, inr, length-take, length-drop, get_or-take, get_or-drop, drop-drop}
use Rattle.std.proofs.lemmas.Nat.{le_bytes_2, le_bytes_4}
use Rattle.std.proofs.lemmas.List.{take-append-drop, get_or_past}
use Rattle.std.proofs.lemmas.Bool.{cases_lt}
use Rattle.byteorder.specs.Endian.{little_bytes, little_number, little_from}
use Rattle.byteorder.specs.Numbers.{little_from-append, little_from-lt}
use Rattle.rasta_pdu.specs.Messages.{AreBytes}
use Rattle.rasta_pdu.specs.Pdu.{little_at}

-- bytes from a place on are bytes
pub AreBytes-drop : (at : ℕ) (xs : List ℕ) → AreBytes xs → AreBytes (drop at xs)
AreBytes-drop at xs are = record { fits = λ i. rw get_or-drop (are.fits (at + i)) }

-- the first bytes are bytes
take_fits : (n : ℕ) (xs : List ℕ) → AreBytes xs → n ≤ length xs → (i : ℕ) → get_or (take n xs) i 0 < 256
take_fits n xs are long i =
    elim (cases_lt i n) [
      | inl h ↦ rw get_or-take (are.fits i)
      | inr h ↦
          let front : length (take n xs) ≡ n = rw length-take (omega arith) in
          omega (arith, get_or_past (take n xs) i 0 (omega arith))
    ]

-- the number of the first bytes is that of the bytes before the rest
same_front : (n : ℕ) (xs : List ℕ) → n ≤ length xs → little_from 0 n (take n xs) ≡ little_from 0 n xs
same_front n xs long =
    let front : length (take n xs) ≡ n = rw length-take (omega arith) in
    sym (little_from-append n (take n xs) (drop n xs) (omega arith)) ∙ ap (little_from 0 n) (take-append-drop n xs)

-- bytes whose first are those of their number
with_front : (n : ℕ) (xs : List ℕ) → little_bytes n (little_number n xs) ≡ take n xs → xs ≡ little_bytes n (little_number n xs) ++ drop n xs
with_front n xs e = sym (take-append-drop n xs) ∙ ap (λ l. l ++ drop n xs) (sym e)

-- the first four bytes are those of their number
four : (xs : List ℕ) → AreBytes xs → 4 ≤ length xs → xs ≡ little_bytes 4 (little_number 4 xs) ++ drop 4 xs
four xs are long =
    let front : length (take 4 xs) ≡ 4 = rw length-take (omega arith) in
    let same = same_front 4 xs long in
    with_front 4 xs (le_bytes_4 (take 4 xs) (little_number 4 xs) front (take_fits 4 xs are long) (omega (arith, same)))

-- the first two bytes are those of their number
two : (xs : List ℕ) → AreBytes xs → 2 ≤ length xs → xs ≡ little_bytes 2 (little_number 2 xs) ++ drop 2 xs
two xs are long =
    let front : length (take 2 xs) ≡ 2 = rw length-take (omega arith) in
    let same = same_front 2 xs long in
    with_front 2 xs (le_bytes_2 (take 2 xs) (little_number 2 xs) front (take_fits 2 xs are long) (omega (arith, same)))

-- four bytes at a place are those of their number
pub four_at : (at : ℕ) (xs : List ℕ) → AreBytes xs → at + 4 ≤ length xs → drop at xs ≡ little_bytes 4 (little_at 4 at xs) ++ drop (at + 4) xs
four_at at xs are long =
    four (drop at xs) (AreBytes-drop at xs are) (rw length-drop (omega arith))
    ∙ ap (λ l. little_bytes 4 (little_at 4 at xs) ++ l) (drop-drop 4 at xs)

-- two bytes at a place are those of their number
pub two_at : (at : ℕ) (xs : List ℕ) → AreBytes xs → at + 2 ≤ length xs → drop at xs ≡ little_bytes 2 (little_at 2 at xs) ++ drop (at + 2) xs
two_at at xs are long =
    two (drop at xs) (AreBytes-drop at xs are) (rw length-drop (omega arith))
    ∙ ap (λ l. little_bytes 2 (little_at 2 at xs) ++ l) (drop-drop 2 at xs)

-- so many bytes spell a number below that power
pub little_at-lt : (n at : ℕ) (xs : List ℕ) → AreBytes xs → little_at n at xs < 256 ^ n
little_at-lt n at xs are = little_from-lt 0 n (drop at xs) (AreBytes-drop at xs are).fits

-- the first of some bytes are bytes
pub AreBytes-take : (n : ℕ) (xs : List ℕ) → AreBytes xs → AreBytes (take n xs)
AreBytes-take n xs are = record {
  fits = λ i. elim (cases_lt i n) [
    | inl h ↦ rw get_or-take (are.fits i)
    | inr h ↦
        let count = length-take n xs in
        omega (arith, get_or_past (take n xs) i 0 (omega arith))
  ];
}
