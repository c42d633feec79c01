-- An answer is that of an audit of the capture for the connection alone.
use Rattle.std.proofs.Common.{◌≡◌, ◌∙◌, ℕ, List, Option, None, Some, IfSome, Ok, ap, inr, subst, sym}
use Rattle.std.specs.List.{AllZip}
use Rattle.rasta_pcap.specs.declared.fault.Fault.{Fault}
use Rattle.rasta_pcap.specs.Fault.{fault_at, not_found}
use Rattle.rasta_pdu.specs.Params.{Parameters}
use Rattle.rasta_line.specs.Texts.{refused_line}
use Rattle.rasta_check.specs.Capture.Crossing.{Crossing}
use Rattle.rasta_check.specs.Capture.Reading.{crossing_of}
use Rattle.rasta_check.proofs.Verdict.FileVerdicts.{same_params}
use Rattle.rasta_verdict.specs.Decided.{Decides}
use Rattle.rasta_verdict.specs.Decided as decided
use Rattle.rasta_verdict.proofs.Proposals.{refused_decides}
use Rattle.rasta_verdict.specs.Proposed as proposed
use Rattle.rasta_verdict.specs.Proposed.{IsAudit}
use Rattle.rasta_verdict.specs.Verdict.{explained_text}
use Rattle.seatmelon_audit.specs.Answers.{IsAnswer, IsRefusal, capture_refused, unexplained}
use Rattle.seatmelon_audit.specs.Audits.{AreAudits, IsAuditedAs, IsConnection, IsConnectionOf}
use Rattle.seatmelon_audit.specs.All.{lines_in}
use Rattle.seatmelon_audit.specs.Reading.{IsReading}
use Rattle.seatmelon_audit.specs.declared.answer.Answer.{Answer}
use Rattle.seatmelon_audit.specs.declared.answer.Answer.TheVariants as answers
use Rattle.seatmelon_audit.specs.declared.answer.Audit.{Audit}
use Rattle.seatmelon_audit.specs.declared.answer.Before.{Before}
use Rattle.seatmelon_audit.specs.declared.answer.Connection.{Connection}
use Rattle.seatmelon_audit.specs.declared.line.Refusal.{Refusal}
use Rattle.seatmelon_audit.specs.declared.reading.Reading.{Reading}
use Rattle.seatmelon_audit.proofs.Answering.{connections_through}

refusal_as : (p : Parameters) (file : List ℕ) (refusal : Refusal) (before : Before) → IsRefusal p file refusal before → IsAudit p file (refused_line refusal.fault) 1
refusal_as p file refusal before (capture_refused k crossed subject first known) = proposed.capture_refused refusal.fault crossed
refusal_as p file refusal before (unexplained k crossed why subject none) =
    subst (λ (f : Fault). IsAudit p file (refused_line f) 1) (sym why.found_none) (proposed.none_found k why.place crossed)

same_crossing : (p : Parameters) (file : List ℕ) (k j : Crossing) → crossing_of p file ≡ Ok k → crossing_of p file ≡ Ok j → k ≡ j
same_crossing p file k j e f = cc

refusal_decides : (p : Parameters) (file : List ℕ) (refusal : Refusal) (before : Before) → IsRefusal p file refusal before → Decides p file (refused_line refusal.fault) 1
refusal_decides p file refusal before (capture_refused k crossed subject first known) = refused_decides p file refusal.fault (refused_line refusal.fault) 1 crossed
refusal_decides p file refusal before (unexplained k crossed why subject none) = λ j again. (
    let text = refused_line refusal.fault in
    let here : decided.IsUnexplained k.params k.packets text = record { place = why.place; told = ap refused_line why.found_none; none = why.none; exact = why.exact } in
    inr (subst (λ (i : Crossing). decided.IsUnexplained p i.packets text) (same_crossing p file k j crossed again)
    (subst (λ (q : Parameters). decided.IsUnexplained q k.packets text) (same_params p file k crossed) here)))

pub audited_as : (p : Parameters) (file : List ℕ) (answer : Answer) → IsAnswer p file answer → IsAuditedAs p file answer
audited_as p file answers.NoPackets h = (refused_line (fault_at not_found 0), 1, proposed.none_found h.0 0 h.1)
audited_as p file (answers.Refused refusal before shown) h = (refusal_as p file refusal before h.0, refusal_decides p file refusal before h.0)
audited_as p file (answers.Explained e) h =
    let why = h.2 in (explained_text h.0 why.scripts why.report, proposed.explained h.0 why.scripts why.report h.1 why.certificate why.verdict)
audited_as p file answers.OutOfMemory h = tt

-- what was read is answered
pub audited : (recorded : List Parameters) (input : Option (List ℕ)) (r : Reading) (a : Audit) → AllZip IsConnectionOf (lines_in r.lines) a.connections.items → a.records ≡ r.records → a.others ≡ r.others
    → a.fault ≡ r.fault → IfSome input (λ file. IsReading recorded file r) → IfSome input (λ file. AreAudits recorded file a)
audited recorded None r a answered records others fault read = tt
audited recorded (Some file) r a answered records others fault read = record {
  connections = subst (λ ps. AllZip (λ (p : Parameters) (c : Connection). IsConnection p file c) ps a.connections.items) read.params
      (connections_through file (lines_in r.lines) a.connections.items answered read.lines);
  records = records ∙ read.count;
  others = others ∙ read.others;
  fault = fault ∙ read.fault;
}
