-- What stands at the front of a text: a number and the byte after it, a reason, an entry.
use Rattle.std.proofs.Common.{◌≡◌, ◌≢◌, inl, ℕ, ◌^◌, ◌<◌, List, [], ◌∷◌, ◌++◌, get_or, true, false, nat_eq, Option, Some, None, IfNone, refl, sym, ap, ◌∙◌, arith, append_assoc}
use Rattle.std.proofs.lemmas.List.{append_cancel_left}
use Rattle.std.specs.Fmt.{decimal}
use Rattle.std.specs.List.{starts_with}
use Rattle.std.specs.Prelude.{codes}
use Rattle.rasta_end.specs.declared.why.Why.{Why}
use Rattle.rasta_cert.specs.declared.entry.Entry.{Entry}
use Rattle.rasta_cert.specs.declared.entry.Entry.TheVariants.{Take, Make}
use Rattle.rasta_cert.specs.Certificate.{IsEntry, IsReason, entry_line, line, why_line}
use Rattle.rasta_line.specs.Words.{cut, decimal_of}
use Rattle.rasta_line.proofs.Cuts.{Lacks-decimal, cut-Some, cut-first}
use Rattle.rasta_line.proofs.Numbers.{decimal_of-Some, decimal_of-decimal}

abbrev most_64 : ℕ
most_64 = 18446744073709551615

abbrev Parts : Type 0
Parts = List ℕ × List ℕ

pub if_none : {A : Type 0} (o : Option A) (P : Type 0) → P → IfNone o P
if_none None P p = p
if_none (Some x) P p = tt

-- ---- numbers

module _ (byte n : ℕ) (low : byte < 48) (small : n < 2 ^ 64) where
  -- a number and what follows it are the parts around the byte
  number_cut : (text rest : List ℕ) → text ≡ decimal n ++ (byte ∷ rest) → cut byte text ≡ Some (decimal n, rest)
  number_cut text rest e = ap (cut byte) e ∙ cut-first byte (decimal n) rest (Lacks-decimal byte n small (inl low))

  number_read : decimal_of most_64 (decimal n) ≡ Some n
  number_read = decimal_of-decimal most_64 n (decimal n) (omega arith) (omega arith) refl

  -- none stands before the byte where the byte isn't there
  pub no_mark : (text rest : List ℕ) → cut byte text ≡ None → text ≢ decimal n ++ (byte ∷ rest)
  no_mark text rest none e = (let some = number_cut text rest e in absurd (cc))

  -- or where no number is
  pub no_digits : (text rest digits after : List ℕ) → cut byte text ≡ Some (digits, after) → decimal_of most_64 digits ≡ None
      → text ≢ decimal n ++ (byte ∷ rest)
  no_digits text rest digits after is none e =
      let some = number_cut text rest e in
      let parts : ◌≡◌ {A = Parts} (digits, after) (decimal n, rest) = cc in
      let read = ap (decimal_of most_64) (ap (λ (p : Parts). p.0) parts) ∙ number_read in
      absurd (cc)

-- what is read before the byte is the number there
pub number_there : (byte n : ℕ) (text digits after : List ℕ) → cut byte text ≡ Some (digits, after) → decimal_of most_64 digits ≡ Some n
    → text ≡ decimal n ++ (byte ∷ after)
number_there byte n text digits after is read =
    (cut-Some byte text (digits, after) is).0 ∙ ap (λ (l : List ℕ). l ++ (byte ∷ after)) (decimal_of-Some most_64 n digits read).0

-- no text begins with two numbers
pub one_number : (byte m n : ℕ) (text r s : List ℕ) → byte < 48 → m < 2 ^ 64 → n < 2 ^ 64 → text ≡ decimal m ++ (byte ∷ r) → text ≡ decimal n ++ (byte ∷ s)
    → (m ≡ n) × (r ≡ s)
one_number byte m n text r s low hm hn e f =
    let one = number_cut byte m low hm text r e in
    let other = number_cut byte n low hn text s f in
    let parts : ◌≡◌ {A = Parts} (decimal m, r) (decimal n, s) = cc in
    let m_read = number_read byte m low hm in
    let n_read = number_read byte n low hn in
    let same = ap (decimal_of most_64) (ap (λ (p : Parts). p.0) parts) in
    (cc, ap (λ (p : Parts). p.1) parts)

-- ---- entries

-- the front of a text is the line of an entry, part by part
pub take_line : (text one rest : List ℕ) (slot number : ℕ) → text ≡ decimal slot ++ (32 ∷ one) → one ≡ decimal number ++ (10 ∷ rest)
    → codes "take " ++ text ≡ entry_line (Take slot number) ++ rest
unfolding entry_line
take_line text one rest slot number a b =
    let last : one ≡ line (decimal number) ++ rest = b ∙ sym (append_assoc (decimal number) (10 ∷ []) rest) in
    ap (λ (l : List ℕ). codes "take " ++ l)
    (a ∙ ap (λ (l : List ℕ). decimal slot ++ (32 ∷ l)) last ∙ sym (append_assoc (decimal slot) (32 ∷ line (decimal number)) rest))

pub make_line : (text one two rest : List ℕ) (index clock : ℕ) (why : Why) → text ≡ decimal index ++ (32 ∷ one) → one ≡ decimal clock ++ (32 ∷ two)
    → two ≡ why_line why ++ rest → codes "make " ++ text ≡ entry_line (Make index clock why) ++ rest
unfolding entry_line
make_line text one two rest index clock why a b w =
    let W = why_line why in
    let I = decimal index in
    let C = decimal clock in
    let last : one ≡ (C ++ (32 ∷ W)) ++ rest = b ∙ ap (λ (l : List ℕ). C ++ (32 ∷ l)) w ∙ sym (append_assoc C (32 ∷ W) rest) in
    ap (λ (l : List ℕ). codes "make " ++ l)
    (a ∙ ap (λ (l : List ℕ). I ++ (32 ∷ l)) last ∙ sym (append_assoc I (32 ∷ (C ++ (32 ∷ W))) rest))

take_begins : (text rest : List ℕ) (slot number : ℕ) → codes "take " ++ text ≡ entry_line (Take slot number) ++ rest
    → text ≡ decimal slot ++ (32 ∷ (decimal number ++ (10 ∷ rest)))
unfolding entry_line
take_begins text rest slot number e =
    append_cancel_left (codes "take ") text ((decimal slot ++ (32 ∷ line (decimal number))) ++ rest) e
    ∙ append_assoc (decimal slot) (32 ∷ line (decimal number)) rest
    ∙ ap (λ (l : List ℕ). decimal slot ++ (32 ∷ l)) (append_assoc (decimal number) (10 ∷ []) rest)

make_begins : (text rest : List ℕ) (index clock : ℕ) (why : Why) → codes "make " ++ text ≡ entry_line (Make index clock why) ++ rest
    → text ≡ decimal index ++ (32 ∷ (decimal clock ++ (32 ∷ (why_line why ++ rest))))
unfolding entry_line
make_begins text rest index clock why e =
    append_cancel_left (codes "make ") text ((decimal index ++ (32 ∷ (decimal clock ++ (32 ∷ why_line why)))) ++ rest) e
    ∙ append_assoc (decimal index) (32 ∷ (decimal clock ++ (32 ∷ why_line why))) rest
    ∙ ap (λ (l : List ℕ). decimal index ++ (32 ∷ l)) (append_assoc (decimal clock) (32 ∷ why_line why) rest)

-- the two words differ in their first byte
pub words_differ : (xs ys : List ℕ) → 116 ∷ xs ≢ 109 ∷ ys
words_differ xs ys e = (let first : ◌≡◌ {A = ℕ} 116 109 = ap (λ (l : List ℕ). get_or l 0 0) e in absurd (omega arith))

-- after `take` stands no entry but with its numbers
pub no_take : (text : List ℕ) → ((slot number : ℕ) (rest : List ℕ) → slot < 2 ^ 32 → number < 2 ^ 32 → text ≢ decimal slot ++ (32 ∷ (decimal number ++ (10 ∷ rest))))
    → (e : Entry) (rest : List ℕ) → IsEntry e → codes "take " ++ text ≢ entry_line e ++ rest
unfolding entry_line
no_take text none (Take slot number) rest h e = none slot number rest h.0 h.1 (take_begins text rest slot number e)
no_take text none (Make index clock why) rest h e = words_differ _ _ e

-- and after `make` none but with its numbers and its reason
pub no_make : (text : List ℕ)
    → ((index clock : ℕ) (why : Why) (rest : List ℕ) → index < 2 ^ 32 → clock < 2 ^ 64 → IsReason why → text ≢ decimal index ++ (32 ∷ (decimal clock ++ (32 ∷ (why_line why ++ rest)))))
    → (e : Entry) (rest : List ℕ) → IsEntry e → codes "make " ++ text ≢ entry_line e ++ rest
unfolding entry_line
no_make text none (Take slot number) rest h e = words_differ _ _ (sym e)
no_make text none (Make index clock why) rest h e = none index clock why rest h.0 h.1 h.2 (make_begins text rest index clock why e)

-- a text that doesn't begin so is no text that does
begun : (text other word : List ℕ) → starts_with nat_eq text word ≡ false → text ≡ other → starts_with nat_eq other word ≢ true
begun text other word lacks e test = (let same = ap (λ (l : List ℕ). starts_with nat_eq l word) e in absurd (cc))

-- no entry stands where neither word does
pub no_word : (text : List ℕ) → starts_with nat_eq text (codes "take ") ≡ false → starts_with nat_eq text (codes "make ") ≡ false
    → (e : Entry) (rest : List ℕ) → IsEntry e → text ≢ entry_line e ++ rest
unfolding entry_line
no_word text taken made (Take slot number) rest h e = begun text _ (codes "take ") taken e refl
no_word text taken made (Make index clock why) rest h e = begun text _ (codes "make ") made e refl
