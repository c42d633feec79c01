use Rattle.rasta_verdict.specs.Given.{refused, unscripted}
use Rattle.seatmelon_audit.proofs.Answering.{explained_on, refused_on}
use Rattle.seatmelon_audit.proofs.answer.judged.Goals as goal

pub returns-in-Ok-Explained-clause-answer : goal.returns-in-Ok-Explained-clause-answer
returns-in-Ok-Explained-clause-answer c opens =
    explained_on c.args.store.now c.in-Ok-Explained.explanation c.explained_of.result.0 c.len.ensures.crossing
    (rw c.in-Ok-Explained.field-0-is at c.in-Ok-Explained.ensures.judged) c.explained_of.ensures.counts

pub returns-in-Ok-Unscripted-clause-answer : goal.returns-in-Ok-Unscripted-clause-answer
returns-in-Ok-Unscripted-clause-answer c opens =
    refused_on c.args.store.now c.args.packets.now c.in-Ok-Unscripted.fault c.unexplained-answer.result c.len.ensures.crossing
    (unscripted (rw c.in-Ok-Unscripted.field-0-is at c.in-Ok-Unscripted.ensures.judged)) (c.unexplained-answer.ensures opens)

pub returns-in-Ok-Refused-clause-answer : goal.returns-in-Ok-Refused-clause-answer
returns-in-Ok-Refused-clause-answer c opens =
    let judged = rw c.in-Ok-Refused.field-0-is at c.in-Ok-Refused.ensures.judged in
    refused_on c.args.store.now c.args.packets.now c.in-Ok-Refused.fault c.unexplained-answer-in-Ok-Refused.result c.len.ensures.crossing
    (refused c.in-Ok-Refused.field-0-1 judged.0 judged.1) (c.unexplained-answer-in-Ok-Refused.ensures opens)
