use Rattle.std.proofs.Common.{◌∙◌, sym}
use Rattle.rasta_cert.proofs.FrontLemmas.{no_word}
use Rattle.rasta_cert.proofs.front.front_entry.Goals as goal

pub returns-else-starts_with-2-clause-none : goal.returns-else-starts_with-2-clause-none
returns-else-starts_with-2-clause-none c =
    no_word c.args.text.now (sym c.starts_with.ensures.value ∙ c.if-starts_with.false)
    (sym c.starts_with-else-starts_with.ensures.value ∙ c.if-starts_with-2.false)
