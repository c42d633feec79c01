use Rattle.std.proofs.Common.{arith, ◌∙◌}
use Rattle.rasta_pdu.proofs.Spellings.{spelled_by, read_back_by, if_ok, if_ok_both}
use Rattle.rasta_pdu.proofs.read.decode.Goals as goal

pub returns-clause-spelled : goal.returns-clause-spelled
returns-clause-spelled c =
    if_ok c.read.result _ _ (λ d is. (is.is, is.spelled))
    (spelled_by c.args.params.now c.args.side c.args.bytes.now c.read.result c.read.ensures.valid
    (record { fits = λ i. omega (arith, c.type_inv.bytes i) }) c.read.ensures.value)

pub returns-clause-read_back : goal.returns-clause-read_back
returns-clause-read_back c r is e =
    read_back_by c.args.params.now c.args.side c.args.bytes.now c.read.result r c.read.ensures.valid
    c.read.ensures.receiver c.read.ensures.sender is e c.read.ensures.value

pub returns-clause-code : goal.returns-clause-code
returns-clause-code c =
    if_ok_both c.read.result _ _ _ (λ d is place. place ∙ is.code)
    (spelled_by c.args.params.now c.args.side c.args.bytes.now c.read.result c.read.ensures.valid
    (record { fits = λ i. omega (arith, c.type_inv.bytes i) }) c.read.ensures.value)
    c.read.ensures.code
