use Rattle.std.proofs.Common.{◌∙◌, List, ap, sym, subst}
use Rattle.rasta_check.specs.Capture.Building.{crossed_in}
use Rattle.rasta_check.specs.Capture.Crossing.{Crossing}
use Rattle.seatmelon_middle.specs.Course.{crossed_course}
use Rattle.seatmelon_middle.specs.Packets.{opens_first}
use Rattle.seatmelon_audit.specs.Answers.{IsAnswerOn}
use Rattle.seatmelon_audit.specs.declared.line.Stamp.{Stamp}
use Rattle.seatmelon_audit.proofs.Answering.{read_answer, read_course, refused_answer, refused_course}
use Rattle.seatmelon_audit.proofs.answer.outcome_of.Goals as goal

pub returns-in-Reading-clause-answer : goal.returns-in-Reading-clause-answer
returns-in-Reading-clause-answer c =
    read_answer c.args.line.now c.judged-answer.result.0 c.in-Reading.is
    (λ opens. subst (λ (packets : List Stamp). IsAnswerOn (crossed_in c.args.line.now.builder) packets c.judged-answer.result.0) c.as_slice-packets.ensures.value
    (subst (λ (k : Crossing). IsAnswerOn k c.as_slice-packets.result.now c.judged-answer.result.0) c.store.ensures
    (c.judged-answer.ensures.answer (opens ∙ ap (λ (k : Crossing). opens_first k.params k.packets) (sym c.store.ensures)))))

pub returns-in-Reading-clause-course : goal.returns-in-Reading-clause-course
returns-in-Reading-clause-course c =
    read_course c.args.line.now c.judged-answer.result.0 c.judged-answer.result.1 c.in-Reading.is (c.judged-answer.ensures.course ∙ ap crossed_course c.store.ensures)

pub returns-in-Refused-clause-answer : goal.returns-in-Refused-clause-answer
returns-in-Refused-clause-answer c = refused_answer c.args.line.now c.in-Refused.refusal c.refused_line.result c.in-Refused.is c.refused_line.ensures

pub returns-in-Refused-clause-course : goal.returns-in-Refused-clause-course
returns-in-Refused-clause-course c = refused_course c.args.line.now c.in-Refused.refusal c.refused_line.result c.in-Refused.is
