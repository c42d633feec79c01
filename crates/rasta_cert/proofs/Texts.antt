-- The texts of entries, one by one.
use Rattle.std.proofs.Common.{◌≡◌, ℕ, suc, ◌+◌, ◌-◌, ◌<◌, ◌≤◌, length-drop, List, [], ◌∷◌, ◌++◌, length, drop, get_or, ap, refl, sym, ◌∙◌, append_assoc, arith}
use Rattle.std.proofs.Math.Seq.{drop-cons}
use Rattle.std.proofs.lemmas.List.{append-nil, nil_from_length}
use Rattle.rasta_cert.specs.declared.entry.Entry.{Entry}
use Rattle.rasta_cert.specs.Certificate.{AreEntries, IsEntry, Scripts, certificate_text, entries_text, entry_line, first_lines, line}
use Rattle.std.specs.Prelude.{codes}

pub entries_text-none : entries_text [] ≡ []
unfolding entries_text
entries_text-none = refl

-- the line of the next entry, and the lines after it
pub entries_text-next : (es : List Entry) (i : ℕ) (d : Entry) → i < length es
    → entries_text (drop i es) ≡ entry_line (get_or es i d) ++ entries_text (drop (i + 1) es)
unfolding entries_text
entries_text-next es i d h =
    let one : suc i ≡ i + 1 = omega arith in
    ap entries_text (drop-cons es i d h) ∙ ap (λ (n : ℕ). entry_line (get_or es i d) ++ entries_text (drop n es)) one

-- nothing is left after the last
pub entries_text-end : (es : List Entry) (i : ℕ) → length es ≤ i → entries_text (drop i es) ≡ []
entries_text-end es i h = ap entries_text (nil_from_length (drop i es) (length-drop i es ∙ none)) ∙ entries_text-none
  where
    none : length es - i ≡ 0
    none = omega (arith, h)

-- the text of one entry more
pub entries_text_push : (es : List Entry) (e : Entry) (text rest after : List ℕ) → text ≡ entries_text es ++ rest → rest ≡ entry_line e ++ after
    → text ≡ entries_text (es ++ e ∷ []) ++ after
unfolding entries_text
entries_text_push [] e text rest after h k = h ∙ k ∙ ap (λ (l : List ℕ). l ++ after) (sym (append-nil (entry_line e)))
entries_text_push (d ∷ es) e text rest after h k =
    h ∙ append_assoc (entry_line d) (entries_text es) rest
    ∙ ap (λ (l : List ℕ). entry_line d ++ l) (entries_text_push es e (entries_text es ++ rest) rest after refl k)
    ∙ sym (append_assoc (entry_line d) (entries_text (es ++ e ∷ [])) after)

pub AreEntries_push : (es : List Entry) (e : Entry) → AreEntries es → IsEntry e → AreEntries (es ++ e ∷ [])
AreEntries_push [] e h k = (k, tt)
AreEntries_push (d ∷ es) e h k = (h.0, AreEntries_push es e h.1 k)

-- a certificate's text is that of its lines
pub certificate_text-parts : (c : Scripts) → certificate_text c
    ≡ first_lines ++ (entries_text c.client ++ (line (codes "server") ++ (entries_text c.server ++ line (codes "end"))))
unfolding certificate_text
certificate_text-parts c = refl
