use Rattle.std.proofs.Common.{◌≡◌, ◌∙◌, sym, ap, false}
use Rattle.trials_plain.proofs.Plainly.{not_pushed}
use Rattle.trials_plain.proofs.taken.push_data.Goals as goal
use Rattle.rasta_pdu.specs.Pdu.{is_kind}
use Rattle.rasta_pdu.specs.declared.kind.Kind.TheVariants.{Data}

pub returns-else-is : goal.returns-else-is
returns-else-is c =
    let none : c.is.result ≡ false = cc in
    not_pushed c.args.copies.now.items c.args.copy.now (sym (ap (is_kind Data) c.kind.ensures) ∙ sym c.is.ensures ∙ none)
