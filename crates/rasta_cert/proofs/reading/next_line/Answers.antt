use Rattle.std.proofs.Common.{◌≡◌, ◌≢◌, List, ℕ, Bor, Option, Some, None, IfSome, IfNone, option_map, ◌++◌, sym}
use Rattle.rasta_cert.specs.Certificate.{line}
use Rattle.rasta_line.specs.Words.{cut}
use Rattle.rasta_cert.specs.Refusals.{first_line}
use Rattle.rasta_cert.proofs.LineLemmas.{first_line-cut, first_line-whole}
use Rattle.rasta_cert.proofs.reading.next_line.Goals as goal

abbrev Parts : Type 0
Parts = Bor (List ℕ) × Bor (List ℕ)

abbrev are_cut : List ℕ → Option Parts → Type 0
are_cut text o = option_map (λ (p : Parts). (p.0.now, p.1.now)) o ≡ cut 10 text

found : (text : List ℕ) (o : Option Parts) → are_cut text o → IfSome o (λ p. text ≡ line p.0.now ++ p.1.now)
found text None h = tt
found text (Some p) h = (first_line-cut text (p.0.now, p.1.now) (sym h)).1

first : (text : List ℕ) (o : Option Parts) → are_cut text o → IfSome o (λ p. first_line text ≡ line p.0.now)
first text None h = tt
first text (Some p) h = (first_line-cut text (p.0.now, p.1.now) (sym h)).0

none : (text : List ℕ) (o : Option Parts) → are_cut text o → IfNone o ((words : List ℕ) → first_line text ≢ line words)
none text None h = λ words. first_line-whole text words (sym h)
none text (Some p) h = tt

pub returns-clause-found : goal.returns-clause-found
returns-clause-found c = found c.args.text.now c.parts.result c.parts.ensures

pub returns-clause-first : goal.returns-clause-first
returns-clause-first c = first c.args.text.now c.parts.result c.parts.ensures

pub returns-clause-none : goal.returns-clause-none
returns-clause-none c = none c.args.text.now c.parts.result c.parts.ensures
