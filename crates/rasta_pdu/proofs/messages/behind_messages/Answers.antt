use Rattle.std.proofs.Common.{◌≡◌, ◌+◌, ◌∙◌, ℕ, List, length, drop, arith, ap, sym}
use Rattle.rasta_pdu.proofs.Payloads.{behind_messages-is, behind_more, filled, filled_more, filled_none}
use Rattle.rasta_pdu.proofs.messages.behind_messages.Goals as goal

pub loop-after-preserved : goal.loop-after-preserved
loop-after-preserved c =
    let more = filled_more c.loop-after.rest.now c.in-Some.ensures.0 in
    let behind = behind_more c.loop-after.rest.now c.in-Some.ensures.0 in
    rw (c.in-Some.ensures.2) (omega (arith, c.loop-after.invariant.0), c.loop-after.invariant.1 ∙ behind)

pub returns-clause-rest : goal.returns-clause-rest
returns-clause-rest c =
    behind_messages-is c.args.payload.now c.loop-after.rest.now c.in_default.ensures c.loop-after.invariant.1

pub returns-clause-lengths : goal.returns-clause-lengths
returns-clause-lengths c =
    let none = filled_none c.loop-after.rest.now c.in_default.ensures in
    omega (arith, c.loop-after.invariant.0)
