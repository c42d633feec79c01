-- The lines of entries: their words, and that no two entries share one.
use Rattle.std.proofs.Common.{◌≡◌, ℕ, List, [], ◌∷◌, ◌++◌, get_or, ◌==◌, if◌then◌else◌, refl, sym, ap, ◌∙◌, arith, append_assoc}
use Rattle.std.proofs.lemmas.List.{append_cancel_left, append_cancel_right}
use Rattle.std.specs.Fmt.{decimal}
use Rattle.std.specs.Prelude.{codes}
use Rattle.rasta_end.specs.declared.why.Why.{Why}
use Rattle.rasta_end.specs.declared.why.Why.TheVariants.{Open, Reply, Beat, Fresh, Again, Ask, Bye, Expired}
use Rattle.rasta_cert.specs.declared.entry.Entry.{Entry}
use Rattle.rasta_cert.specs.declared.entry.Entry.TheVariants.{Take, Make}
use Rattle.rasta_cert.specs.Certificate.{IsEntry, IsReason, entry_line, line, why_line}
use Rattle.rasta_cert.proofs.FrontLemmas.{one_number, words_differ}

-- the words of a reason
abbrev pub why_words : Why → List ℕ
why_words Open = codes "open"
why_words Reply = codes "reply"
why_words Beat = codes "beat"
why_words Fresh = codes "fresh"
why_words (Again unit) = codes "again" ++ (32 ∷ decimal unit)
why_words Ask = codes "ask"
why_words Bye = codes "bye"
why_words Expired = codes "expired"

-- the words of an entry
abbrev pub entry_words : Entry → List ℕ
entry_words (Take slot number) = codes "take" ++ (32 ∷ (decimal slot ++ (32 ∷ decimal number)))
entry_words (Make index clock why) = codes "make" ++ (32 ∷ (decimal index ++ (32 ∷ (decimal clock ++ (32 ∷ why_words why)))))

why_line-words : (why : Why) → why_line why ≡ line (why_words why)
why_line-words (Again unit) = sym (append_assoc (codes "again") (32 ∷ decimal unit) (10 ∷ []))
why_line-words _ = refl

-- an entry's line is its words and the end of the line
pub entry_line-words : (e : Entry) → entry_line e ≡ line (entry_words e)
unfolding entry_line
entry_line-words (Take slot number) =
    ap (λ (l : List ℕ). codes "take" ++ (32 ∷ l)) (sym (append_assoc (decimal slot) (32 ∷ decimal number) (10 ∷ [])))
    ∙ sym (append_assoc (codes "take") (32 ∷ (decimal slot ++ (32 ∷ decimal number))) (10 ∷ []))
entry_line-words (Make index clock why) =
    let W = why_words why in
    let I = decimal index in
    let C = decimal clock in
    ap (λ (l : List ℕ). codes "make" ++ (32 ∷ (I ++ (32 ∷ (C ++ (32 ∷ l)))))) (why_line-words why)
    ∙ ap (λ (l : List ℕ). codes "make" ++ (32 ∷ (I ++ (32 ∷ l)))) (sym (append_assoc C (32 ∷ W) (10 ∷ [])))
    ∙ ap (λ (l : List ℕ). codes "make" ++ (32 ∷ l)) (sym (append_assoc I (32 ∷ (C ++ (32 ∷ W))) (10 ∷ [])))
    ∙ sym (append_assoc (codes "make") (32 ∷ (I ++ (32 ∷ (C ++ (32 ∷ W))))) (10 ∷ []))

-- two lines with the same words and ends are the same
pub line_injective : (xs ys : List ℕ) → line xs ≡ line ys → xs ≡ ys
line_injective xs ys h = append_cancel_right xs ys (10 ∷ []) h

-- ---- no two entries share a line

-- the reason of a line that begins with these two bytes, but for the unit
by_letters : ℕ → ℕ → Why
by_letters first second =
    if first == 111 then Open
    else if first == 114 then Reply
    else if first == 102 then Fresh
    else if first == 101 then Expired
    else if second == 101 then Beat
    else if second == 121 then Bye
    else if second == 115 then Ask
    else Again 0

without_unit : Why → Why
without_unit (Again unit) = Again 0
without_unit why = why

by_letters-line : (why : Why) → by_letters (get_or (why_line why) 0 0) (get_or (why_line why) 1 0) ≡ without_unit why
unfolding by_letters without_unit
by_letters-line (Again unit) = refl
by_letters-line _ = refl

same_reason : (v w : Why) → IsReason v → IsReason w → why_line v ≡ why_line w → without_unit v ≡ without_unit w → v ≡ w
unfolding without_unit
same_reason (Again unit) (Again other) h k e same =
    let rest = append_cancel_left (codes "again ") (line (decimal unit)) (line (decimal other)) e in
    ap Again (one_number 10 unit other (line (decimal unit)) [] [] (omega arith) (omega arith) (omega arith) refl rest).0
same_reason (Again unit) w h k e same = absurd (cc)
same_reason v (Again other) h k e same = absurd (cc)
same_reason v w h k e same = same

why_line_injective : (v w : Why) → IsReason v → IsReason w → why_line v ≡ why_line w → v ≡ w
why_line_injective v w h k e =
    same_reason v w h k e
    (sym (by_letters-line v) ∙ ap (λ (l : List ℕ). by_letters (get_or l 0 0) (get_or l 1 0)) e ∙ by_letters-line w)

-- entries with the same line are the same
pub entry_line_injective : (e d : Entry) → IsEntry e → IsEntry d → entry_line e ≡ entry_line d → e ≡ d
unfolding entry_line
entry_line_injective (Take slot number) (Take other_slot other_number) h k same =
    let rest = append_cancel_left (codes "take ") (decimal slot ++ (32 ∷ line (decimal number))) (decimal other_slot ++ (32 ∷ line (decimal other_number))) same in
    let slots = one_number 32 slot other_slot _ (line (decimal number)) (line (decimal other_number)) (omega arith) (omega arith) (omega arith) refl rest in
    let numbers = one_number 10 number other_number _ [] [] (omega arith) (omega arith) (omega arith) refl slots.1 in (cc)
entry_line_injective (Take slot number) (Make index clock why) h k same = absurd (words_differ _ _ same)
entry_line_injective (Make index clock why) (Take slot number) h k same = absurd (words_differ _ _ (sym same))
entry_line_injective (Make index clock why) (Make other_index other_clock other_why) h k same =
    let last = decimal clock ++ (32 ∷ why_line why) in
    let other_last = decimal other_clock ++ (32 ∷ why_line other_why) in
    let rest = append_cancel_left (codes "make ") (decimal index ++ (32 ∷ last)) (decimal other_index ++ (32 ∷ other_last)) same in
    let indices = one_number 32 index other_index _ last other_last (omega arith) (omega arith) (omega arith) refl rest in
    let clocks = one_number 32 clock other_clock _ (why_line why) (why_line other_why) (omega arith) h.1 k.1 refl indices.1 in
    let whys = why_line_injective why other_why h.2 k.2 clocks.1 in (cc)
