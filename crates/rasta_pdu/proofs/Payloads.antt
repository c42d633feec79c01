-- The messages of a payload, read and spelled.
use Rattle.std.proofs.Common.{◌≡◌, ℕ, zero, suc, ◌+◌, ◌-◌, ◌^◌, ◌<◌, ◌≤◌, List, [], ◌∷◌, ◌++◌, length, take, drop, Bool, true, false, cond, nat_le, nat_eq, nat_lt, ◌&&◌, not, get_or, refl, ap, sym, ◌∙◌, arith, append_assoc, append-nil, length-drop, length-append, length-take}
use Rattle.std.proofs.Math.Seq.{take-append_seam, drop-append_seam}
use Rattle.std.proofs.lemmas.List.{drop-drop, nil_from_length}
use Rattle.std.proofs.lemmas.List.Folds.{drop_split}
use Rattle.rasta_pdu.proofs.Places.{length-slice_range}
use Rattle.rasta_pdu.proofs.Numbers.{AreBytes-drop, two_at}
use Rattle.std.proofs.lemmas.Bool.{leb-true, eqb-true, and_parts}
use Rattle.std.proofs.lemmas.Bool.Decides.{nat_tests}
use Rattle.byteorder.specs.Endian.{little_bytes, little_number}
use Rattle.byteorder.specs.Numbers.{little_number-reads_back}
use Rattle.std.specs.Borrow.{Bor}
use Rattle.rasta_pdu.specs.Parts.{lists_of}
use Rattle.rasta_pdu.specs.Messages.{payload_of_messages, has_message, first_message, after_message, messages_up_to, messages_of, are_messages, behind_messages, AreBytes, AreShort}

-- the bytes after a message are fewer
length-after : (xs : List ℕ) → length (after_message xs) ≡ length xs - (2 + little_number 2 xs)
length-after xs = length-drop (2 + little_number 2 xs) xs

-- more than as many messages as bytes are no more messages
up_to_enough : (n m : ℕ) (xs : List ℕ) → length xs ≤ n → length xs ≤ m → messages_up_to n xs ≡ messages_up_to m xs
up_to_enough zero zero xs h k = refl
up_to_enough zero (suc m) [] h k = refl
up_to_enough zero (suc m) (x ∷ xs) h k = absurd (omega arith)
up_to_enough (suc n) zero [] h k = refl
up_to_enough (suc n) zero (x ∷ xs) h k = absurd (omega arith)
up_to_enough (suc n) (suc m) xs h k =
    let less = length-after xs in
    ap (λ (ms : List (List ℕ)). cond (has_message xs) (first_message xs ∷ ms) [])
    (up_to_enough n m (after_message xs) (omega arith) (omega arith))

-- the messages are the first and those after it
pub messages_of-is : (xs : List ℕ) → messages_of xs ≡ cond (has_message xs) (first_message xs ∷ messages_of (after_message xs)) []
unfolding messages_of
messages_of-is xs =
    let less = length-after xs in
    up_to_enough (length xs) (suc (length xs)) xs (omega arith) (omega arith)
    ∙ ap (λ (ms : List (List ℕ)). cond (has_message xs) (first_message xs ∷ ms) [])
    (up_to_enough (length xs) (length (after_message xs)) (after_message xs) (omega arith) (omega arith))

-- where a message begins, it is the first
pub messages_of-first : (xs : List ℕ) → has_message xs ≡ true → messages_of xs ≡ first_message xs ∷ messages_of (after_message xs)
messages_of-first xs h = messages_of-is xs ∙ ap (λ (b : Bool). cond b (first_message xs ∷ messages_of (after_message xs)) []) h

-- where none begins, there is none
pub messages_of-none : (xs : List ℕ) → has_message xs ≡ false → messages_of xs ≡ []
messages_of-none xs h = messages_of-is xs ∙ ap (λ (b : Bool). cond b (first_message xs ∷ messages_of (after_message xs)) []) h

-- how many bytes the messages of the bytes take
abbrev pub filled : List ℕ → ℕ
filled xs = length (payload_of_messages (messages_of xs))

-- a message's length field and its bytes
pub length-first : (xs : List ℕ) → has_message xs ≡ true → length (first_message xs) + 2 + length (after_message xs) ≡ length xs
length-first xs h =
    let room : 2 + little_number 2 xs ≤ length xs = leb-true (2 + little_number 2 xs) (length xs) h in
    let less = length-after xs in
    let taken = length-take (2 + little_number 2 xs - 2) (drop 2 xs) in
    let left = length-drop 2 xs in
    omega arith

pub filled_more : (xs : List ℕ) → has_message xs ≡ true → filled xs + length (after_message xs) ≡ filled (after_message xs) + length xs
filled_more xs h =
    let all = ap (λ (ms : List (List ℕ)). length (payload_of_messages ms)) (messages_of-first xs h) in
    let parts = length-append (first_message xs) (payload_of_messages (messages_of (after_message xs))) in
    let size = length-first xs h in
    omega arith

pub filled_none : (xs : List ℕ) → has_message xs ≡ false → filled xs ≡ 0
filled_none xs h = ap (λ (ms : List (List ℕ)). length (payload_of_messages ms)) (messages_of-none xs h)

full : (f r l : ℕ) → f + r ≡ l → (nat_lt 0 l && nat_eq f l) ≡ (not (nat_eq l 0) && nat_eq r 0)
full f r l e = grind (arith, nat_tests)

-- the messages fill the payload where nothing is left after the last
pub are_messages-is : (payload rest : List ℕ) → filled payload + length rest ≡ length payload
    → are_messages payload ≡ (not (nat_eq (length payload) 0) && nat_eq (length rest) 0)
unfolding are_messages
are_messages-is payload rest e = full (filled payload) (length rest) (length payload) e

-- no bytes are no payload of messages
pub are_messages-empty : (payload : List ℕ) → length payload ≡ 0 → are_messages payload ≡ false
unfolding are_messages
are_messages-empty payload h = ap (λ (n : ℕ). nat_lt 0 n && nat_eq (filled payload) n) h

-- what is left behind all messages is left behind those after the first
pub behind_more : (xs : List ℕ) → has_message xs ≡ true
    → drop (filled xs) xs ≡ drop (filled (after_message xs)) (after_message xs)
behind_more xs h =
    let more = filled_more xs h in
    let less = length-after xs in
    let room : 2 + little_number 2 xs ≤ length xs = leb-true (2 + little_number 2 xs) (length xs) h in
    let sum : filled xs ≡ 2 + little_number 2 xs + filled (after_message xs) = omega arith in
    ap (λ (k : ℕ). drop k xs) sum ∙ sym (drop-drop (filled (after_message xs)) (2 + little_number 2 xs) xs)

-- it is there where none begins
pub behind_messages-is : (payload rest : List ℕ) → has_message rest ≡ false
    → drop (filled payload) payload ≡ drop (filled rest) rest → rest ≡ behind_messages payload
unfolding behind_messages
behind_messages-is payload rest h e =
    let none = filled_none rest h in
    sym (e ∙ ap (λ (k : ℕ). drop k rest) none)

-- no bytes are no messages
pub no_messages : messages_of [] ≡ []
no_messages = messages_of-none [] refl

-- the spelling of messages that are lent
abbrev pub spelled : List (Bor (List ℕ)) → List ℕ
spelled ms = payload_of_messages (lists_of ms)

-- spelled messages are no fewer bytes than one of them
short_by : (ms : List (List ℕ)) (i : ℕ) → length (get_or ms i []) ≤ length (payload_of_messages ms)
short_by [] i = omega arith
short_by (m ∷ ms) zero = let size = length-append m (payload_of_messages ms) in omega arith
short_by (m ∷ ms) (suc i) =
    let size = length-append m (payload_of_messages ms) in
    let more = short_by ms i in
    omega arith

-- few bytes are short messages
pub AreShort-few : (ms : List (List ℕ)) → length (payload_of_messages ms) < 2 ^ 16 → AreShort ms
AreShort-few ms h = record { short = λ i. let less = short_by ms i in omega arith }

-- where a spelled message begins, it is read
first_is : (m rest : List ℕ) → length m < 2 ^ 16 → messages_of (little_bytes 2 (length m) ++ (m ++ rest)) ≡ m ∷ messages_of rest
first_is m rest short =
    let xs : List ℕ = little_bytes 2 (length m) ++ (m ++ rest) in
    let n : little_number 2 xs ≡ length m = little_number-reads_back 2 (length m) (m ++ rest) short in
    let size = length-append m rest in
    let has : has_message xs ≡ true = most (2 + little_number 2 xs) (length xs) (omega arith) in
    let first : first_message xs ≡ m = ap (λ (k : ℕ). take (2 + k - 2) (m ++ rest)) n ∙ ap (λ (k : ℕ). take k (m ++ rest)) (omega arith) ∙ take-append_seam m rest in
    let after : after_message xs ≡ rest = ap (λ (k : ℕ). drop (2 + k) xs) n ∙ skip m rest (length m) xs refl (omega arith) in
    messages_of-first xs has ∙ ap (λ (l : List ℕ). l ∷ messages_of (after_message xs)) first ∙ ap (λ (l : List ℕ). m ∷ messages_of l) after
  where
    most : (a b : ℕ) → a ≤ b → nat_le a b ≡ true
    most a b h = grind (arith, nat_tests)

    skip : (m rest : List ℕ) (n : ℕ) (xs : List ℕ) → xs ≡ little_bytes 2 n ++ (m ++ rest) → n ≡ length m → drop (2 + n) xs ≡ rest
    skip m rest n xs e f =
        let two : 2 + n ≡ suc (suc n) = omega arith in
        ap (λ (l : List ℕ). drop (2 + n) l) e ∙ ap (λ (k : ℕ). drop k (little_bytes 2 n ++ (m ++ rest))) two
        ∙ ap (λ (k : ℕ). drop k (m ++ rest)) f ∙ drop-append_seam m rest

AreShort-rest : (m : List ℕ) (ms : List (List ℕ)) → AreShort (m ∷ ms) → AreShort ms
AreShort-rest m ms are = record { short = λ i. are.short (suc i) }

-- what is spelled is read as the same messages
pub messages_of-payload : (ms : List (List ℕ)) → AreShort ms → messages_of (payload_of_messages ms) ≡ ms
messages_of-payload [] are = no_messages
messages_of-payload (m ∷ ms) are =
    first_is m (payload_of_messages ms) (are.short 0)
    ∙ ap (λ (l : List (List ℕ)). m ∷ l) (messages_of-payload ms (AreShort-rest m ms are))

-- one or more spelled messages fill their payload
pub are_messages-payload : (ms : List (List ℕ)) → AreShort ms → 0 < length ms → are_messages (payload_of_messages ms) ≡ true
unfolding are_messages
are_messages-payload [] are some = absurd (omega arith)
are_messages-payload (m ∷ ms) are some =
    let same = ap (λ (l : List (List ℕ)). length (payload_of_messages l)) (messages_of-payload (m ∷ ms) are) in
    both (length (payload_of_messages (messages_of (payload_of_messages (m ∷ ms))))) (length (payload_of_messages (m ∷ ms))) same (omega arith)
  where
    both : (a b : ℕ) → a ≡ b → 0 < b → (nat_lt 0 b && nat_eq a b) ≡ true
    both a b e h = grind (arith, nat_tests)

-- ---- a payload and its messages

-- where a message begins, the bytes are its length, itself and what follows it
front_is : (xs : List ℕ) → AreBytes xs → has_message xs ≡ true
    → xs ≡ little_bytes 2 (length (first_message xs)) ++ (first_message xs ++ after_message xs)
front_is xs are h =
    let n : ℕ = little_number 2 xs in
    let room : 2 + n ≤ length xs = leb-true (2 + n) (length xs) h in
    let size : length (first_message xs) ≡ n = length-slice_range xs 2 (2 + n) (omega arith) room ∙ omega arith in
    two_at 0 xs are (omega arith)
    ∙ ap (λ (m : ℕ). little_bytes 2 m ++ drop 2 xs) (sym size)
    ∙ ap (λ (l : List ℕ). little_bytes 2 (length (first_message xs)) ++ l) (drop_split xs 2 (2 + n) (omega arith))

-- the bytes are the spelling of so many of their messages, and what is left
record Splits (n : ℕ) (xs : List ℕ) : Type 0 where
  rest : List ℕ
  is : xs ≡ payload_of_messages (messages_up_to n xs) ++ rest

first_split : (n : ℕ) (xs : List ℕ) → AreBytes xs → Splits n (after_message xs) → (b : Bool) → has_message xs ≡ b → Splits (suc n) xs
first_split n xs are more false h = record {
  rest = xs;
  is = ap (λ (t : Bool). payload_of_messages (cond t (first_message xs ∷ messages_up_to n (after_message xs)) []) ++ xs) (sym h);
}
first_split n xs are more true h = record {
  rest = more.rest;
  is = front_is xs are h
      ∙ ap (λ (l : List ℕ). little_bytes 2 (length (first_message xs)) ++ (first_message xs ++ l)) more.is
      ∙ ap (λ (l : List ℕ). little_bytes 2 (length (first_message xs)) ++ l)
      (sym (append_assoc (first_message xs) (payload_of_messages (messages_up_to n (after_message xs))) more.rest))
      ∙ ap (λ (t : Bool). payload_of_messages (cond t (first_message xs ∷ messages_up_to n (after_message xs)) []) ++ more.rest) (sym h);
}

splits : (n : ℕ) (xs : List ℕ) → AreBytes xs → Splits n xs
splits zero xs are = record { rest = xs; is = refl }
splits (suc n) xs are =
    first_split n xs are (splits n (after_message xs) (AreBytes-drop (2 + little_number 2 xs) xs are)) (has_message xs) refl

-- a payload that its messages fill is their spelling
pub payload_of_messages-messages_of : (xs : List ℕ) → AreBytes xs → are_messages xs ≡ true → xs ≡ payload_of_messages (messages_of xs)
unfolding messages_of are_messages
payload_of_messages-messages_of xs are h =
    let all = splits (length xs) xs are in
    let spelled : List ℕ = payload_of_messages (messages_up_to (length xs) xs) in
    let tests = and_parts (nat_lt 0 (length xs)) (nat_eq (length spelled) (length xs)) h in
    let size : length spelled ≡ length xs = eqb-true (length spelled) (length xs) tests.1 in
    let whole = ap length all.is in
    let parts = length-append spelled all.rest in
    let none : all.rest ≡ [] = nil_from_length all.rest (omega arith) in
    all.is ∙ ap (λ (l : List ℕ). spelled ++ l) none ∙ append-nil spelled
