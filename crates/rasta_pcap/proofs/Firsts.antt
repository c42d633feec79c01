-- Fewer records of the same file.
use Rattle.std.proofs.Common.{◌≡◌, ◌∙◌, ℕ, zero, suc, ◌+◌, ◌-◌, ◌<◌, ◌≤◌, List, [], ◌∷◌, length, cond, take, Bool, true, false, nat_lt, Option, None, Some, Result, Ok, Err, ap, refl, sym, arith}
use Rattle.std.proofs.lemmas.Bool.Decides.{nat_tests}
use Rattle.std.proofs.lemmas.List.{take_all}
use Rattle.rasta_pcap.specs.declared.fault.Fault.{Fault}
use Rattle.rasta_pcap.specs.Capture.{FileCursor, Numbered, cursor_after, next, opening, reading, reading_of, with_record}
use Rattle.rasta_pcap.specs.Capture as captures
use Rattle.rasta_pcap.proofs.Steps.{reading-end, reading-fault, reading-none_left, reading-record, reading_of-opened, reading_of-refused}

-- the first records, and the fault if it stands before so many
abbrev pub first_of : ℕ → captures.Reading → captures.Reading
first_of left r = record { records = take left r.records; fault = cond (nat_lt (length r.records) left) r.fault None }

one_more_by : (n m : ℕ) (b : Bool) → nat_lt n m ≡ b → nat_lt (suc n) (suc m) ≡ b
one_more_by n m true e = grind (arith, nat_tests, e)
one_more_by n m false e = grind (arith, nat_tests, e)

one_more : (n m : ℕ) → nat_lt (suc n) (suc m) ≡ nat_lt n m
one_more n m = one_more_by n m (nat_lt n m) refl

none_before : (n : ℕ) → nat_lt n 0 ≡ false
none_before n = grind (arith, nat_tests)

some_before : (n : ℕ) → nat_lt 0 (suc n) ≡ true
some_before n = grind (arith, nat_tests)

first_none : (r : captures.Reading) → first_of 0 r ≡ record { records = []; fault = None }
first_none r = ap (λ (b : Bool). record { records = []; fault = cond b r.fault None }) (none_before (length r.records))

first_more : (left : ℕ) (r : Numbered) (more : captures.Reading) → first_of (suc left) (with_record r more) ≡ with_record r (first_of left more)
first_more left r more = ap (λ (b : Bool). record { records = r ∷ take left more.records; fault = cond b more.fault None }) (one_more (length more.records) left)

first_empty : (left : ℕ) (f : Option Fault) → first_of (suc left) (record { records = []; fault = f }) ≡ record { records = []; fault = f }
first_empty left f = ap (λ (b : Bool). record { records = []; fault = cond b f None }) (some_before left)

first_by : (left total : ℕ) (c : FileCursor) (o : Result (Option Numbered) Fault) → next c ≡ o → reading left (cursor_after c) ≡ first_of left (reading total (cursor_after c))
    → reading (suc left) c ≡ first_of (suc left) (reading (suc total) c)
first_by left total c (Ok None) e more = reading-end left c e ∙ sym (first_empty left None) ∙ ap (first_of (suc left)) (sym (reading-end total c e))
first_by left total c (Err f) e more = reading-fault left c f e ∙ sym (first_empty left (Some f)) ∙ ap (first_of (suc left)) (sym (reading-fault total c f e))
first_by left total c (Ok (Some r)) e more =
    reading-record left c r e ∙ ap (with_record r) more ∙ sym (first_more left r (reading total (cursor_after c))) ∙ ap (first_of (suc left)) (sym (reading-record total c r e))

reading_first : (left more : ℕ) (c : FileCursor) → reading left c ≡ first_of left (reading (left + more) c)
reading_first zero more c = reading-none_left c ∙ sym (first_none (reading (0 + more) c))
reading_first (suc left) more c =
    let sum : suc (left + more) ≡ suc left + more = omega arith in
    first_by left (left + more) c (next c) refl (reading_first left more (cursor_after c)) ∙ ap (λ n. first_of (suc left) (reading n c)) sum

file_by : (left total : ℕ) (file : List ℕ) (o : Result FileCursor Fault) → opening file ≡ o → 0 < left → left ≤ total → reading_of left file ≡ first_of left (reading_of total file)
file_by left total file (Ok c) e some few =
    let sum : left + (total - left) ≡ total = omega (arith, few) in
    reading_of-opened left file c e ∙ reading_first left (total - left) c ∙ ap (λ n. first_of left (reading n c)) sum ∙ ap (first_of left) (sym (reading_of-opened total file c e))
file_by left total file (Err f) e some few =
    let before : nat_lt 0 left ≡ true = grind (arith, nat_tests, some) in
    let empty : ◌≡◌ {A = captures.Reading} (first_of left (record { records = []; fault = Some f })) (record { records = []; fault = Some f }) =
    ap (λ l. record { records = l; fault = cond (nat_lt 0 left) (Some f) None }) (take_all left [] (omega arith)) ∙ ap (λ (b : Bool). record { records = []; fault = cond b (Some f) None }) before in
    reading_of-refused left file f e ∙ sym empty ∙ ap (first_of left) (sym (reading_of-refused total file f e))

pub file_first : (left total : ℕ) (file : List ℕ) → 0 < left → left ≤ total → reading_of left file ≡ first_of left (reading_of total file)
file_first left total file some few = file_by left total file (opening file) refl some few
