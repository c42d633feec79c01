use Rattle.std.proofs.Common.{arith}
use Rattle.rasta_verdict.specs.Given.{refused, unscripted}
use Rattle.seatmelon_audit.proofs.Answering.{explained_on, front_refused}
use Rattle.seatmelon_audit.proofs.answer.before_by.Goals as goal

pub returns-in-Ok-Explained : goal.returns-in-Ok-Explained
returns-in-Ok-Explained c = (
  omega (arith, c.if-packets-eq0.false, c.len-packets.ensures.value),
  explained_on c.args.store.now c.in-Ok-Explained.explanation c.explained_of.result.0 c.len-packets.ensures.crossing
      (rw c.in-Ok-Explained.field-0-is at c.in-Ok-Explained.ensures.judged) c.explained_of.ensures.counts,
)

pub returns-in-Ok-Unscripted : goal.returns-in-Ok-Unscripted
returns-in-Ok-Unscripted c =
    front_refused c.args.store.now c.in-Ok-Unscripted.fault c.unexplained_before.result c.len-packets.result c.len-packets.ensures.crossing c.len-packets.ensures.value
    (unscripted (rw c.in-Ok-Unscripted.field-0-is at c.in-Ok-Unscripted.ensures.judged)) c.unexplained_before.ensures

pub returns-in-Ok-Refused : goal.returns-in-Ok-Refused
returns-in-Ok-Refused c =
    let judged = rw c.in-Ok-Refused.field-0-is at c.in-Ok-Refused.ensures.judged in
    front_refused c.args.store.now c.in-Ok-Refused.fault c.unexplained_before-in-Ok-Refused.result c.len-packets.result c.len-packets.ensures.crossing c.len-packets.ensures.value
    (refused c.in-Ok-Refused.field-0-1 judged.0 judged.1) c.unexplained_before-in-Ok-Refused.ensures
