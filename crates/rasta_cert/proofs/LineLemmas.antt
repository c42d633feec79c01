-- Lines: bytes without an end, and then the end.
use Rattle.std.proofs.Common.{◌≡◌, ◌≢◌, ◌⊎◌, inl, inr, ℕ, suc, ◌+◌, ◌<◌, ◌^◌, List, [], ◌∷◌, ◌++◌, map, length, get_or, Bool, true, false, cond, nat_eq, Some, None, refl, sym, ap, subst, ◌∙◌, arith, append_assoc, length-append}
use Rattle.std.proofs.Math.Seq.{get_or-append_seam}
use Rattle.std.proofs.lemmas.Bool.{false≢true}
use Rattle.std.proofs.lemmas.List.{append_cancel_left}
use Rattle.std.specs.Fmt.{decimal}
use Rattle.std.specs.List.{AllByRecursion, concat}
use Rattle.std.specs.Prelude.{codes}
use Rattle.rasta_end.specs.declared.why.Why.{Why}
use Rattle.rasta_end.specs.declared.why.Why.TheVariants.{Open, Reply, Beat, Fresh, Again, Ask, Bye, Expired}
use Rattle.rasta_cert.specs.declared.entry.Entry.{Entry}
use Rattle.rasta_cert.specs.declared.entry.Entry.TheVariants.{Take, Make}
use Rattle.rasta_cert.specs.Certificate.{AreEntries, AreScripts, IsEntry, IsReason, Scripts, entry_line, line}
use Rattle.rasta_cert.specs.Reading.{BeginsWith}
use Rattle.rasta_cert.specs.Refusals.{first_line, lines_of}
use Rattle.rasta_line.specs.Words.{cut}
use Rattle.rasta_line.proofs.Cuts.{Lacks, Lacks-append, Lacks-cons, Lacks-decimal, Lacks-word, cut-None, cut-Some}
use Rattle.rasta_cert.proofs.EntryLemmas.{entry_line-words, entry_words, why_words}

Lacks-tail : (byte c : ℕ) (cs : List ℕ) → Lacks byte (c ∷ cs) → Lacks byte cs
Lacks-tail byte c cs h = record { at = λ k below. h.at (suc k) (let more : k < length cs = below in omega arith) }

Lacks-head : (byte c : ℕ) (cs : List ℕ) → Lacks byte (c ∷ cs) → nat_eq c byte ≡ false
Lacks-head byte c cs h = h.at 0 (omega arith)

-- a line is the first of what it begins
pub first_line-line : (xs rest : List ℕ) → Lacks 10 xs → first_line (line xs ++ rest) ≡ line xs
first_line-line [] rest h = refl
first_line-line (x ∷ xs) rest h =
    ap (λ (b : Bool). cond b (x ∷ []) (x ∷ first_line (line xs ++ rest))) (Lacks-head 10 x xs h)
    ∙ ap (λ (l : List ℕ). x ∷ l) (first_line-line xs rest (Lacks-tail 10 x xs h))

front_of : (t : Bool) (b : ℕ) (bs : List ℕ) → (rest : List ℕ) × (bs ≡ first_line bs ++ rest) → (rest : List ℕ) × ((b ∷ bs) ≡ cond t (b ∷ []) (b ∷ first_line bs) ++ rest)
front_of true b bs more = (bs, refl)
front_of false b bs more = (more.0, ap (λ (l : List ℕ). b ∷ l) more.1)

-- a text begins with its first line
pub first_line-front : (text : List ℕ) → (rest : List ℕ) × (text ≡ first_line text ++ rest)
first_line-front [] = ([], refl)
first_line-front (b ∷ bs) = front_of (nat_eq b 10) b bs (first_line-front bs)

-- a text without an end of a line is its own first line
first_line-rest : (text : List ℕ) → Lacks 10 text → first_line text ≡ text
first_line-rest [] h = refl
first_line-rest (x ∷ xs) h =
    ap (λ (b : Bool). cond b (x ∷ []) (x ∷ first_line xs)) (Lacks-head 10 x xs h)
    ∙ ap (λ (l : List ℕ). x ∷ l) (first_line-rest xs (Lacks-tail 10 x xs h))

-- the first line of a text, where it has an end
pub first_line-cut : (text : List ℕ) (parts : List ℕ × List ℕ) → cut 10 text ≡ Some parts
    → (first_line text ≡ line parts.0) × (text ≡ line parts.0 ++ parts.1)
first_line-cut text parts h =
    let split = cut-Some 10 text parts h in
    let text_is : text ≡ line parts.0 ++ parts.1 = split.0 ∙ sym (append_assoc parts.0 (10 ∷ []) parts.1) in
    (ap first_line text_is ∙ first_line-line parts.0 parts.1 split.1, text_is)

-- and where it has none
pub first_line-whole : (text words : List ℕ) → cut 10 text ≡ None → first_line text ≢ line words
first_line-whole text words h e =
    let lacks = cut-None 10 text h in
    let whole : text ≡ line words = sym (first_line-rest text lacks) ∙ e in
    let long : length (line words) ≡ length words + 1 = length-append words (10 ∷ []) in
    let within : length words < length text = omega (arith, long, ap length whole) in
    let here : get_or text (length words) 0 ≡ 10 = ap (λ (l : List ℕ). get_or l (length words) 0) whole ∙ get_or-append_seam words 10 [] 0 in
    false≢true (sym (lacks.at (length words) within) ∙ ap (λ (c : ℕ). nat_eq c 10) here)

-- the first line of each text that begins with it, and not empty
pub record IsLine (l : List ℕ) : Type 0 where
  pub first : (rest : List ℕ) → first_line (l ++ rest) ≡ l
  pub some : l ≢ []

pub IsLine-line : (xs : List ℕ) → Lacks 10 xs → IsLine (line xs)
IsLine-line xs h = record { first = λ rest. first_line-line xs rest h; some = filled xs }
  where
    filled : (ys : List ℕ) → line ys ≢ []
    filled ys e = let long : length (line ys) ≡ length ys + 1 = length-append ys (10 ∷ []) in omega (arith, long, ap length e)

no_end : (n : ℕ) → n < 2 ^ 64 → Lacks 10 (decimal n)
no_end n small = Lacks-decimal 10 n small (inl (omega arith))

why_lacks : (why : Why) → IsReason why → Lacks 10 (why_words why)
why_lacks Open h = Lacks-word 10 (codes "open") refl
why_lacks Reply h = Lacks-word 10 (codes "reply") refl
why_lacks Beat h = Lacks-word 10 (codes "beat") refl
why_lacks Fresh h = Lacks-word 10 (codes "fresh") refl
why_lacks (Again unit) h =
    Lacks-append 10 (codes "again") (32 ∷ decimal unit) (Lacks-word 10 (codes "again") refl) (Lacks-cons 10 32 (decimal unit) refl (no_end unit (omega arith)))
why_lacks Ask h = Lacks-word 10 (codes "ask") refl
why_lacks Bye h = Lacks-word 10 (codes "bye") refl
why_lacks Expired h = Lacks-word 10 (codes "expired") refl

spaced : (front after : List ℕ) → Lacks 10 front → Lacks 10 after → Lacks 10 (front ++ (32 ∷ after))
spaced front after f b = Lacks-append 10 front (32 ∷ after) f (Lacks-cons 10 32 after refl b)

entry_lacks : (e : Entry) → IsEntry e → Lacks 10 (entry_words e)
entry_lacks (Take slot number) h =
    spaced (codes "take") _ (Lacks-word 10 (codes "take") refl) (spaced (decimal slot) (decimal number) (no_end slot (let s = h.0 in omega arith)) (no_end number (let n = h.1 in omega arith)))
entry_lacks (Make index clock why) h =
    spaced (codes "make") _ (Lacks-word 10 (codes "make") refl) (spaced (decimal index) _ (no_end index (let i = h.0 in omega arith))
    (spaced (decimal clock) (why_words why) (no_end clock h.1) (why_lacks why h.2)))

pub IsLine-entry : (e : Entry) → IsEntry e → IsLine (entry_line e)
IsLine-entry e h = subst IsLine (sym (entry_line-words e)) (IsLine-line (entry_words e) (entry_lacks e h))

-- a text begins with the entry whose line it begins with
pub begins_with : (text rest : List ℕ) (e : Entry) → text ≡ entry_line e ++ rest → IsEntry e → BeginsWith text e rest
begins_with text rest e is valid = record { text_is = is; first = ap first_line is ∙ (IsLine-entry e valid).first rest; valid = valid }

-- and goes on with a shorter one
pub shorter_after : (text rest : List ℕ) (e : Entry) → text ≡ entry_line e ++ rest → length rest < length text
shorter_after text rest e is =
    let words = entry_words e in
    let both : length (line words ++ rest) ≡ length (line words) + length rest = length-append (line words) rest in
    let long : length (line words) ≡ length words + 1 = length-append words (10 ∷ []) in
    let all : text ≡ line words ++ rest = is ∙ ap (λ (l : List ℕ). l ++ rest) (entry_line-words e) in
    omega (arith, both, long, ap length all)

abbrev pub AreLines : List (List ℕ) → Type 0
AreLines ls = AllByRecursion IsLine ls

pub AreLines-entries : (es : List Entry) (ls : List (List ℕ)) → AreEntries es → AreLines ls → AreLines (map entry_line es ++ ls)
AreLines-entries [] ls h k = k
AreLines-entries (e ∷ es) ls h k = (IsLine-entry e h.0, AreLines-entries es ls h.1 k)

pub AreLines-lines_of : (c : Scripts) → AreScripts c → AreLines (lines_of c)
AreLines-lines_of c h = (
  IsLine-line (codes "rasta-certificate 1") (Lacks-word 10 (codes "rasta-certificate 1") refl),
  (
    IsLine-line (codes "client") (Lacks-word 10 (codes "client") refl),
    AreLines-entries c.client _ h.0 (
      IsLine-line (codes "server") (Lacks-word 10 (codes "server") refl),
      AreLines-entries c.server _ h.1 (IsLine-line (codes "end") (Lacks-word 10 (codes "end") refl), tt),
    ),
  ),
)

pub AreLines-front : (xs ys : List (List ℕ)) → AreLines (xs ++ ys) → AreLines xs
AreLines-front [] ys h = tt
AreLines-front (a ∷ xs) ys h = (h.0, AreLines-front xs ys h.1)

pub AreLines-after : (xs ys : List (List ℕ)) → AreLines (xs ++ ys) → AreLines ys
AreLines-after [] ys h = h
AreLines-after (a ∷ xs) ys h = AreLines-after xs ys h.1

-- a list of lines goes on with the first line of what follows another's
pub record GoesOn (xs : List (List ℕ)) (rest : List ℕ) (ys : List (List ℕ)) : Type 0 where
  pub more : List (List ℕ)
  pub is : ys ≡ xs ++ (first_line rest ∷ more)

-- where one text is two lists of lines and what follows them, they are the same, or one goes on
pub splits : (xs ys : List (List ℕ)) (r s : List ℕ) → AreLines xs → AreLines ys → concat xs ++ r ≡ concat ys ++ s
    → ((xs ≡ ys) × (r ≡ s)) ⊎ GoesOn xs r ys ⊎ GoesOn ys s xs
splits [] [] r s ha hb e = inl (refl, e)
splits [] (b ∷ ys) r s ha hb e =
    let first : first_line r ≡ b = ap first_line (e ∙ append_assoc b (concat ys) s) ∙ hb.0.first (concat ys ++ s) in
    inr (inl record { more = ys; is = ap (λ (l : List ℕ). l ∷ ys) (sym first) })
splits (a ∷ xs) [] r s ha hb e =
    let first : first_line s ≡ a = ap first_line (sym e ∙ append_assoc a (concat xs) r) ∙ ha.0.first (concat xs ++ r) in
    inr (inr record { more = xs; is = ap (λ (l : List ℕ). l ∷ xs) (sym first) })
splits (a ∷ xs) (b ∷ ys) r s ha hb e =
    let split : a ++ (concat xs ++ r) ≡ b ++ (concat ys ++ s) = sym (append_assoc a (concat xs) r) ∙ e ∙ append_assoc b (concat ys) s in
    let same : a ≡ b = sym (ha.0.first (concat xs ++ r)) ∙ ap first_line split ∙ hb.0.first (concat ys ++ s) in
    let rest : concat xs ++ r ≡ concat ys ++ s = append_cancel_left b (concat xs ++ r) (concat ys ++ s) (ap (λ (l : List ℕ). l ++ (concat xs ++ r)) (sym same) ∙ split) in
    elim (splits xs ys r s ha.1 hb.1 rest) [
      | inl k ↦ inl (ap (λ (l : List (List ℕ)). a ∷ l) k.0 ∙ ap (λ (l : List ℕ). l ∷ ys) same, k.1)
      | inr other ↦ elim other [
        | inl k ↦ inr (inl record { more = k.more; is = ap (λ (l : List (List ℕ)). b ∷ l) k.is ∙ ap (λ (l : List ℕ). l ∷ (xs ++ (first_line r ∷ k.more))) (sym same) })
        | inr k ↦ inr (inr record { more = k.more; is = ap (λ (l : List (List ℕ)). a ∷ l) k.is ∙ ap (λ (l : List ℕ). l ∷ (ys ++ (first_line s ∷ k.more))) same })
      ]
    ]
