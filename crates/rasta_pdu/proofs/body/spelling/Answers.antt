use Rattle.std.proofs.Common.{arith, sym}
use Rattle.rasta_pdu.proofs.Bodies.{payload_of-body_at}
use Rattle.rasta_pdu.proofs.body.spelling.Goals as goal

pub returns : goal.returns
returns c = sym (payload_of-body_at c.args.kind c.args.spelled.now (record { fits = λ i. omega (arith, c.type_inv.spelled i) }) c.requires)
