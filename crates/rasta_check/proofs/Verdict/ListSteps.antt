-- Working out a list: what is left to be done is done at one member more.
use Rattle.std.proofs.Common.{◌≡◌, ℕ, suc, ◌+◌, ◌≤◌, true, false, List, [], ◌∷◌, ◌++◌, length, drop, map, Some, None, refl, ap, sym, ◌∙◌, arith, append_assoc, slice_get, add-one}
use Rattle.rasta_check.proofs.Prelude.{append-nil, length-append, length-map, EndState, FirstCopy, TakenUnit, messages_taken, listed_of, numbered_from, shown_by, with_proofs}
use Rattle.rasta_check.proofs.Prelude.{proofs_from, proved_units, is_kind, Data}
use Rattle.std.proofs.lemmas.List.{drop_all}
use Rattle.rasta_check.specs.declared.report.Taken.{Taken}
use Rattle.rasta_check.specs.Verdict.Listed.{TakenMessage}
use Rattle.rasta_check.specs.Internals.Listing.{proved_unit}
use Rattle.rasta_check.proofs.Lists.{drop_one_more}

-- ---- what is left of a list

pub left_at : (xs : List FirstCopy) (i : ℕ) (x : FirstCopy) → slice_get xs i ≡ Some x → drop i xs ≡ x ∷ drop (i + 1) xs
left_at xs i x g = rw add-one (drop_one_more i xs x g)

-- ---- places of proofs

pub proofs_more : (e : EndState) (xs : List FirstCopy) (i : ℕ) (x : FirstCopy) (places new : List ℕ) → slice_get xs i ≡ Some x
    → new ≡ with_proofs places (shown_by e x.pdu.safety) x.place → proofs_from e new (drop (i + 1) xs) ≡ proofs_from e places (drop i xs)
unfolding proofs_from
proofs_more e xs i x places new g h = rw (h, left_at xs i x g) refl

pub proofs_end : (e : EndState) (xs : List FirstCopy) (i : ℕ) (places : List ℕ) → length xs ≤ i → proofs_from e places (drop i xs) ≡ places
unfolding proofs_from
proofs_end e xs i places l = ap (proofs_from e places) (drop_all i xs l)

-- ---- units

-- where a unit has no proof, no further one has
unproved : (places : List ℕ) (unit : ℕ) (copies : List FirstCopy) → slice_get places unit ≡ None → proved_units places unit copies ≡ []
unfolding proved_units
unproved places unit [] g = refl
unproved places unit (c ∷ copies) g = (let more = unproved places unit copies g in grind arith)

pub other_copy : (places : List ℕ) (unit : ℕ) (c : FirstCopy) (copies : List FirstCopy) → is_kind Data c.pdu.safety.kind ≡ false → proved_units places unit (c ∷ copies) ≡ proved_units places unit copies
unfolding proved_units
other_copy places unit c copies k = grind arith

pub unproved_copy : (places : List ℕ) (unit : ℕ) (c : FirstCopy) (copies : List FirstCopy) → slice_get places unit ≡ None → proved_units places unit (c ∷ copies) ≡ proved_units places unit copies
unproved_copy places unit c copies g = unproved places unit (c ∷ copies) g ∙ sym (unproved places unit copies g)

pub proved_copy : (places : List ℕ) (unit place : ℕ) (c : FirstCopy) (copies : List FirstCopy) → is_kind Data c.pdu.safety.kind ≡ true → slice_get places unit ≡ Some place
    → proved_units places unit (c ∷ copies) ≡ proved_unit c place ∷ proved_units places (unit + 1) copies
unfolding proved_units
proved_copy places unit place c copies k g = (let n : suc unit ≡ unit + 1 = omega arith in grind arith)

-- ---- numbered messages

pub numbered-append : (n : ℕ) (xs ys : List TakenMessage) → numbered_from n (xs ++ ys) ≡ numbered_from n xs ++ numbered_from (n + length xs) ys
numbered-append n [] ys = ap (λ k. numbered_from k ys) (omega arith)
numbered-append n (x ∷ xs) ys = (let more = numbered-append (suc n) xs ys in let e : suc n + length xs ≡ n + suc (length xs) = omega arith in grind arith)

length-numbered : (n : ℕ) (xs : List TakenMessage) → length (numbered_from n xs) ≡ length xs
length-numbered n [] = refl
length-numbered n (x ∷ xs) = ap suc (length-numbered (suc n) xs)

-- so many are listed, and these messages are added
pub added_more : (old new : List Taken) (added more : List TakenMessage) → map listed_of new ≡ map listed_of old ++ numbered_from (length old) added
    → map listed_of new ++ numbered_from (length new) more ≡ map listed_of old ++ numbered_from (length old) (added ++ more)
added_more old new added more e =
    let n : length new ≡ length old + length added = (let a = ap length e in grind (arith, length-map, length-append, length-numbered)) in
    rw (e, n) (simp (numbered-append, append_assoc))

-- ---- first copies that are left

pub units_left : (places : List ℕ) (unit : ℕ) (xs : List FirstCopy) (i : ℕ) (x : FirstCopy) → slice_get xs i ≡ Some x → proved_units places unit (drop i xs) ≡ proved_units places unit (x ∷ drop (i + 1) xs)
units_left places unit xs i x g = rw (left_at xs i x g) refl

pub units_end : (places : List ℕ) (unit : ℕ) (xs : List FirstCopy) (i : ℕ) → length xs ≤ i → proved_units places unit (drop i xs) ≡ []
unfolding proved_units
units_end places unit xs i l = ap (proved_units places unit) (drop_all i xs l)

pub listing_ends : (items : List Taken) (units : List TakenUnit) → units ≡ [] → map listed_of items ≡ map listed_of items ++ numbered_from (length items) (messages_taken units)
listing_ends items units e = rw (e, append-nil) refl
