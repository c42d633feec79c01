use Rattle.std.proofs.Common.{arith}
use Rattle.rasta_cert.proofs.FrontLemmas.{if_none, one_number}
use Rattle.rasta_cert.proofs.front.number_32_before.Goals as goal

pub returns-in_err-number-clause-none : goal.returns-in_err-number-clause-none
returns-in_err-number-clause-none c = if_none c.from_residual.result _ λ n rest small. c.in_err-number.ensures.none n rest (omega arith)

pub returns-else-number-le4294967295-clause-none : goal.returns-else-number-le4294967295-clause-none
returns-else-number-le4294967295-clause-none c = λ n rest small is.
    let same = one_number c.args.byte c.in_ok-number.number n c.args.text.now c.in_ok-number.rest.now rest c.requires c.in_ok-number.ensures.fits (omega arith) c.in_ok-number.ensures.text is in
    absurd (omega (arith, same.0))
