use Rattle.std.proofs.Common.{◌∙◌, subst, sym}
use Rattle.rasta_pcap.specs.Stream.{ReadsRecord, count_in, order_in, unit_in}
use Rattle.rasta_pcap.specs.Times.{TellsTime}
use Rattle.rasta_pcap.proofs.Walks.{end_step, fault_step, no_failure, reader_number, record_step}
use Rattle.rasta_pcap.proofs.walk.visit_next.Goals as goal

pub returns-in_ok-visit-in-Ok-Some-clause-step : goal.returns-in_ok-visit-in-Ok-Some-clause-step
returns-in_ok-visit-in-Ok-Some-clause-step g c w most room within on =
    let before = g.S.Source.remaining c.args.source.now in
    let after = g.S.Source.remaining c.advance.new.reader in
    let old = c.args.records.now in
    let number = c.in-Ok-Some.number in
    let step = c.in-Ok-Some.ensures.step in
    let found = rw c.in-Ok-Some.field-0-is at (step.found c.requires) in
    let timed = rw c.in-Ok-Some.field-0-is at (step.timed c.requires) in
    let count = rw c.in-Ok-Some.field-0-is at step.count in
    let read = subst (λ b. ReadsRecord (order_in old) (count_in old) (number, b) before after) (sym c.buffer-bytes.ensures.bytes) found in
    let tells = subst (λ t. TellsTime (order_in old) (unit_in old) t before after) (sym c.time.ensures) timed in
    record_step g.V.Visitor.seen g.V.Visitor.ended w most old c.advance.new.self before after c.args.visitor.now c.visit.new.self number c.buffer-bytes.result.now c.time.result
    read tells step.order step.unit count room within c.in_ok-visit-in-Ok-Some.ensures.seen on

pub returns-in_ok-visit-in-Ok-Some-clause-on : goal.returns-in_ok-visit-in-Ok-Some-clause-on
returns-in_ok-visit-in-Ok-Some-clause-on g c =
    let step = c.in-Ok-Some.ensures.step in record {
      reading = rw c.in-Ok-Some.field-0-is at step.progress;
      count = (rw c.in-Ok-Some.field-0-is at step.count) ∙ reader_number _ _ c.in-Ok-Some.number _ _ _ (rw c.in-Ok-Some.field-0-is at (step.found c.requires));
    }

pub returns-in-Ok-None-clause-step : goal.returns-in-Ok-None-clause-step
returns-in-Ok-None-clause-step g c w most room within on =
    end_step g.V.Visitor.seen g.V.Visitor.ended w most c.args.records.now _ _ c.args.visitor.now (rw c.in-Ok-None.field-0-is at (c.in-Ok-None.ensures.step.found c.requires)) on

pub returns-in_ok-end-in-Err-2-clause-step : goal.returns-in_ok-end-in-Err-2-clause-step
returns-in_ok-end-in-Err-2-clause-step g c w most room within on =
    let told = no_failure c.in-Err.fault c.is_failure.result c.is_failure.ensures c.if-is_failure.false in
    fault_step g.V.Visitor.seen g.V.Visitor.ended w most c.args.records.now _ c.in-Err.fault _ _ _ _ c.args.visitor.now c.end.new.self (c.in-Err.ensures.step.err c.requires)
    told.0 told.1 room c.in_ok-end-in-Err-2.ensures.ended on
