use Rattle.std.proofs.Common.{◌∷◌, ◌++◌, arith}
use Rattle.std.specs.Fmt.{decimal}
use Rattle.rasta_cert.proofs.FrontLemmas.{if_none, no_take, one_number, take_line}
use Rattle.rasta_cert.proofs.front.take.Goals as goal

pub returns-clause-line : goal.returns-clause-line
returns-clause-line c =
    take_line c.args.text.now c.in_ok-slot.rest.now c.in_ok-number.rest.now c.in_ok-slot.slot c.in_ok-number.number
    c.in_ok-slot.ensures.text c.in_ok-number.ensures.text

pub returns-in_err-slot-clause-none : goal.returns-in_err-slot-clause-none
returns-in_err-slot-clause-none c =
    if_none c.from_residual.result _
    (no_take c.args.text.now λ slot number rest slot_fits number_fits is. c.in_err-slot.ensures.none slot (decimal number ++ (10 ∷ rest)) slot_fits is)

pub returns-in_err-number-clause-none : goal.returns-in_err-number-clause-none
returns-in_err-number-clause-none c =
    if_none c.from_residual-in_err-number.result _
    (no_take c.args.text.now λ slot number rest slot_fits number_fits is.
    let same = one_number 32 c.in_ok-slot.slot slot c.args.text.now c.in_ok-slot.rest.now (decimal number ++ (10 ∷ rest)) (omega arith) (let s = c.in_ok-slot.ensures.fits in omega arith) (omega arith)
    c.in_ok-slot.ensures.text is in
    c.in_err-number.ensures.none number rest number_fits same.1)
