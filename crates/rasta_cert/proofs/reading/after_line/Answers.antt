use Rattle.std.proofs.Common.{sym, ◌∙◌}
use Rattle.std.proofs.lemmas.Bool.{false≢true}
use Rattle.std.proofs.lemmas.Slice.Eq.{bytes_eq-Decides}
use Rattle.rasta_cert.proofs.EntryLemmas.{line_injective}
use Rattle.rasta_cert.proofs.reading.after_line.Goals as goal

pub returns-else-eq-clause-none : goal.returns-else-eq-clause-none
returns-else-eq-clause-none c = λ same.
    let words = line_injective c.in_ok-line.line.now c.args.words.now (sym c.in_ok-line.ensures.first ∙ same) in
    false≢true (c.if-eq.ensures ∙ (bytes_eq-Decides c.in_ok-line.line.now c.args.words.now).1 words)
