use Rattle.std.proofs.Common.{◌∙◌, refl, sym, arith}
use Rattle.std.proofs.lemmas.Bool.{false≢true}
use Rattle.rasta_cert.proofs.Numbers.{no_number_above, no_number_of_others, no_number_without_digit, decimal_of-digits}
use Rattle.rasta_cert.proofs.fields.number.Goals as goal

pub returns-then-not-has_no_leading_zero-clause-value :
    goal.returns-then-not-has_no_leading_zero-clause-value
returns-then-not-has_no_leading_zero-clause-value c =
    no_number_without_digit c.args.most c.args.text.now (omega arith) λ h. false≢true (c.if-not-has_no_leading_zero.ensures.1 h)

pub returns-in_err-value-clause-value : goal.returns-in_err-value-clause-value
returns-in_err-value-clause-value c =
    c.from_residual.ensures ∙ no_number_of_others c.args.most c.args.text.now (omega arith) c.in_err-value.ensures

pub returns-then-value-most-clause-value : goal.returns-then-value-most-clause-value
returns-then-value-most-clause-value c =
    let read = c.in_ok-value.ensures in
    decimal_of-digits c.args.most c.in_ok-value.value c.args.text.now (omega arith) (c.if-not-has_no_leading_zero.ensures.0 refl) read.0.0 (sym read.1) c.if-value-most.true

pub returns-else-value-most-clause-value : goal.returns-else-value-most-clause-value
returns-else-value-most-clause-value c =
    let read = c.in_ok-value.ensures in
    no_number_above c.args.most c.args.text.now (omega arith) (omega (arith, read.1))
