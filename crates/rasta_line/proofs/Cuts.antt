-- Texts that are cut around a byte.
use Rattle.std.proofs.Common.{◌≡◌, ◌⊎◌, inl, inr, ℕ, ◌+◌, ◌-◌, ◌^◌, ◌<◌, ◌≤◌, List, [], ◌∷◌, ◌++◌, length, take, drop, get_or, Bool, true, false, cond, not, nat_eq, nat_lt, Option, Some, None, refl, sym, ap, subst, ◌∙◌, arith, length-append}
use Rattle.std.proofs.Math.Seq.{get_or-append_right, get_or-append_seam, take-append_seam, drop-append_seam}
use Rattle.std.proofs.Math.ListN.{get_or-append}
use Rattle.std.proofs.lemmas.Bool.{and_parts, cases_lt, eqb-true}
use Rattle.std.proofs.lemmas.Bool.Decides.{nat_tests}
use Rattle.std.proofs.lemmas.List.Sums.{fails_before_first, passes_at_first, position_or_len_is, prefix_len-le-length, split_at_first}
use Rattle.std.proofs.lemmas.List.{drop-drop, get_or-take, length-take-le}
use Rattle.std.proofs.lemmas.Fmt.{decimal_is_IsNumeral}
use Rattle.std.proofs.lemmas.Str.Parse.{digit_at}
use Rattle.std.specs.Fmt.{decimal}
use Rattle.std.specs.List.{after_first, before_first, list_all, position_or_len}
use Rattle.rasta_line.specs.Words.{and_then, cut}

-- the byte stands nowhere in the text
pub record Lacks (byte : ℕ) (text : List ℕ) : Type 0 where
  pub at : (k : ℕ) → k < length text → nat_eq (get_or text k 0) byte ≡ false

-- a number's text has digits alone
pub Lacks-decimal : (byte n : ℕ) → n < 2 ^ 64 → (byte < 48) ⊎ (57 < byte) → Lacks byte (decimal n)
Lacks-decimal byte n small other = record {
  at = λ k below.
      let range = digit_at (decimal n) k (decimal_is_IsNumeral n small).0.1 below in
      elim other [ inl h ↦ grind (arith, nat_tests) | inr h ↦ grind (arith, nat_tests) ];
}

pub Lacks-append : (byte : ℕ) (xs ys : List ℕ) → Lacks byte xs → Lacks byte ys → Lacks byte (xs ++ ys)
Lacks-append byte xs ys a b = record {
  at = λ k below. elim (cases_lt k (length xs)) [
    | inl h ↦ ap (λ (c : ℕ). nat_eq c byte) (get_or-append xs ys 0 k h) ∙ a.at k h
    | inr h ↦
        let long : length (xs ++ ys) ≡ length xs + length ys = length-append xs ys in
        ap (λ (c : ℕ). nat_eq c byte) (get_or-append_right xs ys k 0 (omega arith)) ∙ b.at (k - length xs) (omega arith)
  ];
}

Lacks-none : (byte : ℕ) → Lacks byte []
Lacks-none byte = record { at = λ k below. absurd (let h : k < 0 = below in omega arith) }

pub Lacks-cons : (byte c : ℕ) (cs : List ℕ) → nat_eq c byte ≡ false → Lacks byte cs → Lacks byte (c ∷ cs)
Lacks-cons byte c cs head tail = Lacks-append byte (c ∷ []) cs one tail
  where
    one : Lacks byte (c ∷ [])
    one = record { at = λ k below. let first : k ≡ 0 = omega arith in rw first head }

-- by a test that computes
pub Lacks-word : (byte : ℕ) (text : List ℕ) → list_all (λ c. not (nat_eq c byte)) text ≡ true → Lacks byte text
Lacks-word byte [] h = Lacks-none byte
Lacks-word byte (c ∷ cs) h =
    let both = and_parts (not (nat_eq c byte)) (list_all (λ d. not (nat_eq d byte)) cs) h in
    Lacks-cons byte c cs (not_true (nat_eq c byte) both.0) (Lacks-word byte cs both.1)
  where
    not_true : (b : Bool) → not b ≡ true → b ≡ false
    not_true true e = sym e
    not_true false e = refl

-- a text is cut around the first separator
pub cut-first : (byte : ℕ) (xs ys : List ℕ) → Lacks byte xs → cut byte (xs ++ byte ∷ ys) ≡ Some (xs, ys)
unfolding cut
cut-first byte xs ys lacks =
    let all = xs ++ byte ∷ ys in
    let p : ℕ → Bool = λ b. nat_eq b byte in
    let long : length all ≡ length xs + length (byte ∷ ys) = length-append xs (byte ∷ ys) in
    let same : nat_eq byte byte ≡ true = grind (arith, nat_tests) in
    let at : position_or_len p all ≡ length xs = position_or_len_is p all (length xs) 0 (omega arith)
    (λ k below. ap (λ (c : ℕ). nat_eq c byte) (get_or-append xs (byte ∷ ys) 0 k below) ∙ lacks.at k below)
    (λ h. ap (λ (c : ℕ). nat_eq c byte) (get_or-append_seam xs byte ys 0) ∙ same) in
    let within : nat_lt (length xs) (length all) ≡ true = grind (arith, nat_tests) in
    let rest : drop (length xs + 1) all ≡ ys = sym (drop-drop 1 (length xs) all) ∙ ap (drop 1) (drop-append_seam xs (byte ∷ ys)) in
    ap (λ (n : ℕ). cond (nat_lt n (length all)) (Some (take n all, drop (n + 1) all)) None) at
    ∙ ap (λ (b : Bool). cond b (Some (take (length xs) all, drop (length xs + 1) all)) None) within
    ∙ ap (λ (l : List ℕ). Some (l, drop (length xs + 1) all)) (take-append_seam xs (byte ∷ ys))
    ∙ ap (λ (l : List ℕ). Some (xs, l)) rest

-- a step that gave a value
pub record Gave {A B : Type 0} (o : Option A) (f : A → Option B) (y : B) : Type 0 where
  pub value : A
  pub is : o ≡ Some value
  pub then_is : f value ≡ Some y

pub gave : {A B : Type 0} (o : Option A) (f : A → Option B) (y : B) → and_then o f ≡ Some y → Gave o f y
gave None f y h = absurd (cc)
gave (Some x) f y h = record { value = x; is = refl; then_is = h }

chosen : {A : Type 0} (b : Bool) (x y : A) → cond b (Some x) None ≡ Some y → (b ≡ true) × (x ≡ y)
chosen true x y h = (refl, cc)
chosen false x y h = absurd (cc)

-- no separator stands before the first
Lacks-before_first : (byte : ℕ) (text : List ℕ) → Lacks byte (before_first (λ b. nat_eq b byte) text)
Lacks-before_first byte text = record {
  at = λ k below.
      let p : ℕ → Bool = λ b. nat_eq b byte in
      let n = position_or_len p text in
      let few : n ≤ length text = prefix_len-le-length (λ b. not (p b)) text in
      let long : length (take n text) ≡ n = length-take-le n text few in
      let inside : k < n = omega (arith, below, long) in
      ap p (get_or-take n text k 0 inside) ∙ fails_before_first p text k 0 inside;
}

-- the parts of a text stand around the first separator
pub cut-Some : (byte : ℕ) (text : List ℕ) (parts : List ℕ × List ℕ) → cut byte text ≡ Some parts
    → (text ≡ parts.0 ++ byte ∷ parts.1) × Lacks byte parts.0
unfolding cut
cut-Some byte text parts h =
    let p : ℕ → Bool = λ b. nat_eq b byte in
    let c = chosen _ (before_first p text, after_first p text) parts h in
    let test : nat_lt (position_or_len p text) (length text) ≡ true = c.0 in
    let within : position_or_len p text < length text = grind (arith, nat_tests) in
    let here : get_or text (position_or_len p text) 0 ≡ byte = eqb-true _ _ (passes_at_first p text 0 within) in
    let front : before_first p text ≡ parts.0 = ap (λ (q : List ℕ × List ℕ). q.0) c.1 in (
      split_at_first p text 0 within
          ∙ ap (λ (n : ℕ). before_first p text ++ (n ∷ after_first p text)) here
          ∙ ap (λ (q : List ℕ × List ℕ). q.0 ++ byte ∷ q.1) c.1,
      subst (Lacks byte) front (Lacks-before_first byte text),
    )

neither : {A : Type 0} (b : Bool) (x : A) → cond b (Some x) None ≡ None → b ≡ false
neither true x h = absurd (let e : Some x ≡ None = h in cc)
neither false x h = refl

-- a text that isn't cut has no separator
pub cut-None : (byte : ℕ) (text : List ℕ) → cut byte text ≡ None → Lacks byte text
unfolding cut
cut-None byte text h =
    let p : ℕ → Bool = λ b. nat_eq b byte in
    let test : nat_lt (position_or_len p text) (length text) ≡ false = neither _ (before_first p text, after_first p text) h in
    record { at = λ k below. let inside : k < position_or_len p text = grind (arith, nat_tests) in fails_before_first p text k 0 inside }
