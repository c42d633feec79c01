use Rattle.std.proofs.Common.{◌∷◌, ◌++◌, arith}
use Rattle.std.specs.Fmt.{decimal}
use Rattle.rasta_cert.specs.Certificate.{why_line}
use Rattle.rasta_cert.proofs.FrontLemmas.{if_none, make_line, no_make, one_number}
use Rattle.rasta_cert.proofs.front.make.Goals as goal

pub returns-clause-line : goal.returns-clause-line
returns-clause-line c =
    make_line c.args.text.now c.in_ok-index.rest.now c.in_ok-clock.rest.now c.in_ok-why.rest.now c.in_ok-index.index c.in_ok-clock.clock c.in_ok-why.why
    c.in_ok-index.ensures.text c.in_ok-clock.ensures.text c.in_ok-why.ensures.line

pub returns-in_err-index-clause-none : goal.returns-in_err-index-clause-none
returns-in_err-index-clause-none c =
    if_none c.from_residual.result _
    (no_make c.args.text.now λ index clock why rest index_fits clock_fits valid is. c.in_err-index.ensures.none index (decimal clock ++ (32 ∷ (why_line why ++ rest))) index_fits is)

pub returns-in_err-clock-clause-none : goal.returns-in_err-clock-clause-none
returns-in_err-clock-clause-none c =
    if_none c.from_residual-in_err-clock.result _
    (no_make c.args.text.now λ index clock why rest index_fits clock_fits valid is.
    let one = one_number 32 c.in_ok-index.index index c.args.text.now c.in_ok-index.rest.now (decimal clock ++ (32 ∷ (why_line why ++ rest))) (omega arith) (let i = c.in_ok-index.ensures.fits in omega arith) (omega arith)
    c.in_ok-index.ensures.text is in
    c.in_err-clock.ensures.none clock (why_line why ++ rest) clock_fits one.1)

pub returns-in_err-why-clause-none : goal.returns-in_err-why-clause-none
returns-in_err-why-clause-none c =
    if_none c.from_residual-in_err-why.result _
    (no_make c.args.text.now λ index clock why rest index_fits clock_fits valid is.
    let one = one_number 32 c.in_ok-index.index index c.args.text.now c.in_ok-index.rest.now (decimal clock ++ (32 ∷ (why_line why ++ rest))) (omega arith) (let i = c.in_ok-index.ensures.fits in omega arith) (omega arith)
    c.in_ok-index.ensures.text is in
    let two = one_number 32 c.in_ok-clock.clock clock c.in_ok-index.rest.now c.in_ok-clock.rest.now (why_line why ++ rest) (omega arith) c.in_ok-clock.ensures.fits clock_fits
    c.in_ok-clock.ensures.text one.1 in
    c.in_err-why.ensures.none why rest valid two.1)
