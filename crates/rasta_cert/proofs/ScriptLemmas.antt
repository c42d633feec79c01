-- The lines of scripts, and lists that begin like them.
use Rattle.std.proofs.Common.{false, ◌≡◌, ◌≢◌, ◌⊎◌, inl, inr, ℕ, ◌<◌, List, [], ◌∷◌, ◌++◌, map, length, get_or, nat_eq, refl, sym, ap, subst, ◌∙◌, arith, append_assoc}
use Rattle.std.proofs.lemmas.Bool.{false≢true}
use Rattle.std.specs.List.{concat}
use Rattle.std.specs.Prelude.{codes}
use Rattle.rasta_cert.specs.declared.entry.Entry.{Entry}
use Rattle.rasta_cert.specs.declared.entry.Entry.TheVariants.{Take, Make}
use Rattle.rasta_cert.specs.Certificate.{AreEntries, AreScripts, IsEntry, Scripts, certificate_text, entries_text, entry_line, first_lines, line}
use Rattle.rasta_cert.specs.Refusals.{first_line, lines_of}
use Rattle.rasta_cert.proofs.EntryLemmas.{entry_line_injective}
use Rattle.rasta_cert.proofs.LineLemmas.{AreLines, AreLines-after, AreLines-lines_of, splits}

-- a line that closes a script is no entry's
pub record Closes (close : List ℕ) : Type 0 where
  pub apart : (e : Entry) → entry_line e ≢ close

-- an entry's line begins with t or m
by_first : (close : List ℕ) → nat_eq (get_or close 0 0) 116 ≡ false → nat_eq (get_or close 0 0) 109 ≡ false → Closes close
unfolding entry_line
by_first close t m = record { apart = apart }
  where
    apart : (e : Entry) → entry_line e ≢ close
    apart (Take slot number) h = false≢true (sym t ∙ ap (λ (l : List ℕ). nat_eq (get_or l 0 0) 116) (sym h))
    apart (Make index clock why) h = false≢true (sym m ∙ ap (λ (l : List ℕ). nat_eq (get_or l 0 0) 109) (sym h))

pub Closes-server : Closes (line (codes "server"))
Closes-server = by_first (line (codes "server")) refl refl

pub Closes-end : Closes (line (codes "end"))
Closes-end = by_first (line (codes "end")) refl refl

abbrev pub Lines : Type 0
Lines = List (List ℕ)

pub first_is : (x y : List ℕ) (xs ys : Lines) → x ∷ xs ≡ y ∷ ys → x ≡ y
first_is x y xs ys h = cc

pub rest_is : (x y : List ℕ) (xs ys : Lines) → x ∷ xs ≡ y ∷ ys → xs ≡ ys
rest_is x y xs ys h = cc

-- after some entries stands the closing line or an entry
pub follows : (close : List ℕ) → Closes close → (es cs : List Entry) (x : List ℕ) (more tail : Lines) → AreEntries cs
    → map entry_line es ++ (x ∷ more) ≡ map entry_line cs ++ (close ∷ tail)
    → (x ≡ close) ⊎ ((e : Entry) × IsEntry e × (x ≡ entry_line e))
follows close apart [] [] x more tail h e = inl (first_is x close more tail e)
follows close apart [] (c ∷ cs) x more tail h e = inr (c, h.0, first_is x (entry_line c) more _ e)
follows close apart (d ∷ es) [] x more tail h e = absurd (apart.apart d (first_is (entry_line d) close _ tail e))
follows close apart (d ∷ es) (c ∷ cs) x more tail h e =
    follows close apart es cs x more tail h.1 (rest_is (entry_line d) (entry_line c) _ _ e)

-- entries with the closing line after them are told from the lines
pub closed : (close : List ℕ) → Closes close → (es cs : List Entry) (xs ys : Lines) → AreEntries es → AreEntries cs
    → map entry_line es ++ (close ∷ xs) ≡ map entry_line cs ++ (close ∷ ys) → (es ≡ cs) × (xs ≡ ys)
closed close apart [] [] xs ys he hc e = (refl, rest_is close close xs ys e)
closed close apart [] (c ∷ cs) xs ys he hc e = absurd (apart.apart c (sym (first_is close (entry_line c) xs _ e)))
closed close apart (d ∷ es) [] xs ys he hc e = absurd (apart.apart d (first_is (entry_line d) close _ ys e))
closed close apart (d ∷ es) (c ∷ cs) xs ys he hc e =
    let rest = closed close apart es cs xs ys he.1 hc.1 (rest_is (entry_line d) (entry_line c) _ _ e) in
    let head = entry_line_injective d c he.0 hc.0 (first_is (entry_line d) (entry_line c) _ _ e) in
    (ap (λ (l : List Entry). d ∷ l) rest.0 ∙ ap (λ (x : Entry). x ∷ cs) head, rest.1)

-- where an entry follows, the script is longer
pub longer : (close : List ℕ) → Closes close → (es cs : List Entry) (d : Entry) (more tail : Lines)
    → map entry_line es ++ (entry_line d ∷ more) ≡ map entry_line cs ++ (close ∷ tail) → length es < length cs
longer close apart [] [] d more tail e = absurd (apart.apart d (first_is (entry_line d) close more tail e))
longer close apart [] (c ∷ cs) d more tail e = omega arith
longer close apart (b ∷ es) [] d more tail e = absurd (apart.apart b (first_is (entry_line b) close _ tail e))
longer close apart (b ∷ es) (c ∷ cs) d more tail e =
    let shorter = longer close apart es cs d more tail (rest_is (entry_line b) (entry_line c) _ _ e) in omega arith

-- entries alone are not closed
pub not_closed : (close : List ℕ) → Closes close → (es cs : List Entry) (tail : Lines) → map entry_line es ≢ map entry_line cs ++ (close ∷ tail)
not_closed close apart [] [] tail e = absurd (let clash : ◌≡◌ {A = Lines} [] (close ∷ tail) = e in cc)
not_closed close apart [] (c ∷ cs) tail e = absurd (let clash : ◌≡◌ {A = Lines} [] (entry_line c ∷ (map entry_line cs ++ (close ∷ tail))) = e in cc)
not_closed close apart (b ∷ es) [] tail e = apart.apart b (first_is (entry_line b) close _ tail e)
not_closed close apart (b ∷ es) (c ∷ cs) tail e = not_closed close apart es cs tail (rest_is (entry_line b) (entry_line c) _ _ e)

-- the text of entries is that of their lines
concat-entries : (es : List Entry) (ls : Lines) → concat (map entry_line es ++ ls) ≡ entries_text es ++ concat ls
unfolding entries_text
concat-entries [] ls = refl
concat-entries (e ∷ es) ls = ap (λ (l : List ℕ). entry_line e ++ l) (concat-entries es ls) ∙ sym (append_assoc (entry_line e) (entries_text es) (concat ls))

-- the text of scripts is that of their lines
pub certificate_text-lines : (c : Scripts) → certificate_text c ≡ concat (lines_of c)
unfolding certificate_text
certificate_text-lines c =
    let S = line (codes "server") in
    let E = line (codes "end") in
    let after : concat (S ∷ (map entry_line c.server ++ (E ∷ []))) ≡ S ++ (entries_text c.server ++ E) =
    ap (λ (l : List ℕ). S ++ l) (concat-entries c.server (E ∷ [])) in
    ap (λ (l : List ℕ). first_lines ++ l) (sym (concat-entries c.client _ ∙ ap (λ (l : List ℕ). entries_text c.client ++ l) after))

empty_is_no_line : (ls more : Lines) (c : Scripts) → AreScripts c → lines_of c ≢ ls ++ (first_line [] ∷ more)
empty_is_no_line ls more c h e = (AreLines-after ls (first_line [] ∷ more) (subst AreLines e (AreLines-lines_of c h))).0.some refl

-- scripts with the same text are the same
pub certificate_text_injective : (c d : Scripts) → AreScripts c → AreScripts d → certificate_text c ≡ certificate_text d → c ≡ d
certificate_text_injective c d hc hd e =
    let texts : concat (lines_of c) ++ [] ≡ concat (lines_of d) ++ [] = ap (λ (l : List ℕ). l ++ []) (sym (certificate_text-lines c) ∙ e ∙ certificate_text-lines d) in
    elim (splits (lines_of c) (lines_of d) [] [] (AreLines-lines_of c hc) (AreLines-lines_of d hd) texts) [
      | inl k ↦ same_lines k.0
      | inr other ↦ elim other [
        | inl k ↦ absurd (empty_is_no_line (lines_of c) k.more d hd k.is)
        | inr k ↦ absurd (empty_is_no_line (lines_of d) k.more c hc k.is)
      ]
    ]
  where
    same_lines : lines_of c ≡ lines_of d → c ≡ d
    same_lines h =
        let after = rest_is _ _ _ _ (rest_is _ _ _ _ h) in
        let client = closed _ Closes-server c.client d.client _ _ hc.0 hd.0 after in
        let server = closed _ Closes-end c.server d.server [] [] hc.1 hd.1 client.1 in
        let both : List Entry → List Entry → Scripts = λ one two. record { client = one; server = two } in
        ap (λ (es : List Entry). both es c.server) client.0 ∙ ap (λ (es : List Entry). both d.client es) server.0
