use Rattle.std.proofs.Common.{◌≡◌, ◌≢◌, ℕ, ◌<◌, List, ◌++◌, length, Bor, Option, Some, None, IfSome, IfNone, ap, ◌∙◌}
use Rattle.rasta_cert.specs.declared.entry.Entry.{Entry}
use Rattle.rasta_cert.specs.Certificate.{IsEntry, entry_line}
use Rattle.rasta_cert.specs.Reading.{BeginsWith, BeginsWithNone}
use Rattle.rasta_cert.proofs.LineLemmas.{begins_with, first_line-front, shorter_after}
use Rattle.rasta_cert.proofs.reading.next_entry.Goals as goal

abbrev Front : Type 0
Front = Entry × Bor (List ℕ)

found : (text : List ℕ) (o : Option Front) → IfSome o (λ p. text ≡ entry_line p.0 ++ p.1.now) → IfSome o (λ p. IsEntry p.0) → IfSome o (λ p. BeginsWith text p.0 p.1.now)
found text None is valid = tt
found text (Some p) is valid = begins_with text p.1.now p.0 is valid

shorter : (text : List ℕ) (o : Option Front) → IfSome o (λ p. text ≡ entry_line p.0 ++ p.1.now) → IfSome o (λ p. length p.1.now < length text)
shorter text None is = tt
shorter text (Some p) is = shorter_after text p.1.now p.0 is

none : (text : List ℕ) (o : Option Front) → IfNone o ((e : Entry) (rest : List ℕ) → IsEntry e → text ≢ entry_line e ++ rest) → IfNone o (BeginsWithNone text)
none text None lacks = λ e valid first. (let front = first_line-front text in lacks e front.0 valid (front.1 ∙ ap (λ (l : List ℕ). l ++ front.0) first))
none text (Some p) lacks = tt

pub returns-clause-found : goal.returns-clause-found
returns-clause-found c = found c.args.text.now c.front_entry.result c.front_entry.ensures.line c.front_entry.ensures.valid

pub returns-clause-shorter : goal.returns-clause-shorter
returns-clause-shorter c = shorter c.args.text.now c.front_entry.result c.front_entry.ensures.line

pub returns-clause-none : goal.returns-clause-none
returns-clause-none c = none c.args.text.now c.front_entry.result c.front_entry.ensures.none
