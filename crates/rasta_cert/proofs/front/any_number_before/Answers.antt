use Rattle.std.proofs.Common.{sym}
use Rattle.rasta_cert.proofs.FrontLemmas.{if_none, no_digits, no_mark, number_there}
use Rattle.rasta_cert.proofs.front.any_number_before.Goals as goal

pub returns-in_err-digits-clause-none : goal.returns-in_err-digits-clause-none
returns-in_err-digits-clause-none c =
    if_none c.from_residual.result _ λ n rest small. no_mark c.args.byte n c.requires small c.args.text.now rest (sym c.in_err-digits.ensures)

pub returns-in_err-value-clause-none : goal.returns-in_err-value-clause-none
returns-in_err-value-clause-none c =
    if_none c.from_residual-in_err-value.result _ λ n rest small.
    no_digits c.args.byte n c.requires small c.args.text.now rest c.in_ok-digits.digits.now c.in_ok-digits.rest.now (sym c.in_ok-digits.ensures)
    (sym c.in_err-value.ensures.value)

pub returns-clause-text : goal.returns-clause-text
returns-clause-text c =
    number_there c.args.byte c.in_ok-value.value c.args.text.now c.in_ok-digits.digits.now c.in_ok-digits.rest.now (sym c.in_ok-digits.ensures)
    (sym c.in_ok-value.ensures.value)
