use Rattle.std.proofs.Common.{arith, length, not, ap, sym, ◌∙◌}
use Rattle.std.proofs.lemmas.Bool.{eqb-true}
use Rattle.std.proofs.lemmas.Bool.Decides.{nat_tests}
use Rattle.rasta_pdu.proofs.Payloads.{are_messages-empty, are_messages-is}
use Rattle.rasta_pdu.proofs.messages.are_messages.Goals as goal

pub returns-then-not-is_empty : goal.returns-then-not-is_empty
returns-then-not-is_empty c =
    let is = are_messages-is c.args.payload.now c.behind_messages.result.now c.behind_messages.ensures.lengths in
    grind (arith, nat_tests, is)

pub returns-else-not-is_empty : goal.returns-else-not-is_empty
returns-else-not-is_empty c =
    let none = are_messages-empty c.args.payload.now (eqb-true (length c.args.payload.now) 0 (sym c.if-not-is_empty.ensures)) in
    ap not c.if-not-is_empty.false ∙ sym none
