use Rattle.std.proofs.Common.{◌∙◌, ◌+◌, ℕ, ap, subst, sym}
use Rattle.rasta_pcap.specs.Stream.{count_in, order_in, room_in}
use Rattle.rasta_pcap.proofs.Extents.{HasRead-more, HasRead-opened}
use Rattle.rasta_pcap.proofs.Noting.{PassesOn-then}
use Rattle.seatmelon_packets.specs.Cut.{cut_in}
use Rattle.seatmelon_survey.specs.Cuts.{TakesCutIf}
use Rattle.seatmelon_survey.specs.Survey.{cuts_of}
use Rattle.seatmelon_survey.specs.Findings.{Findings}
use Rattle.seatmelon_survey.proofs.CountedCuts.{HasCounted-more, HasCounted-opened}
use Rattle.rasta_pcap.specs.Extent.{HasRead}
use Rattle.seatmelon_survey.specs.Extents.{ReadsRecords, RefusesNext}
use Rattle.seatmelon_survey.proofs.Extents.{failed, record-number, refused}
use Rattle.seatmelon_survey.proofs.reading.survey.Goals as goal

pub loop-init : goal.loop-init
loop-init g c =
    let opened = c.in_ok-records.ensures in (
      HasRead-opened _ _ _ opened.opened,
      opened.steady,
      opened.start.1,
      opened.start.0,
      c.new-survey.ensures.records,
      c.new-survey.ensures.fault,
      HasCounted-opened _ _ _ _ opened.opened c.new-survey.ensures.cuts,
      opened.passed,
    )

pub returns-in-Err-2-clause-err : goal.returns-in-Err-2-clause-err
returns-in-Err-2-clause-err g c =
    failed c.in-Err.fault (order_in c.loop.records) (count_in c.loop.records) (room_in c.loop.records) _ _ _ _ _ _ _
    (sym c.if-is_refusal.ensures) c.loop.invariant.1 (c.in-Err.ensures.step.err c.loop.invariant.2)

pub loop-preserved : goal.loop-preserved
loop-preserved g c =
    let step = c.in-Ok-Some.ensures.step in
    let found = rw c.in-Ok-Some.field-0-is at (step.found c.loop.invariant.2) in
    let count = rw c.in-Ok-Some.field-0-is at step.count in
    let progress = rw c.in-Ok-Some.field-0-is at step.progress in
    let number = record-number _ _ _ _ _ found ∙ ap (λ (n : ℕ). n + 1) c.loop.invariant.3 in (
      rw step.order (HasRead-more _ c.loop.counter _ _ _ _ _ c.loop.invariant.0 found),
      step.steady ∙ c.loop.invariant.1,
      progress,
      count ∙ number,
      c.in_ok-add_record.ensures.counted ∙ number,
      c.in_ok-add_record.ensures.fault ∙ c.loop.invariant.5,
      rw step.order (HasCounted-more _ c.loop.counter _ _ _ _ _ _ _ c.loop.invariant.6 found (subst (λ b. TakesCutIf (cut_in b) (cuts_of c.loop.survey) (cuts_of c.add_record.new.self)) c.buffer-bytes.ensures.bytes c.in_ok-add_record.ensures.cuts)),
      PassesOn-then g.R.Source.remaining g.R.Source.notes _ c.loop.reader c.advance.new.reader c.loop.invariant.7 c.in-Ok-Some.ensures.passed,
    )

pub returns-in-Ok-None-clause-passed : goal.returns-in-Ok-None-clause-passed
returns-in-Ok-None-clause-passed g c =
    PassesOn-then g.R.Source.remaining g.R.Source.notes _ c.loop.reader c.advance.new.reader c.loop.invariant.7 c.in-Ok-None.ensures.passed

pub returns-in-Err-clause-passed : goal.returns-in-Err-clause-passed
returns-in-Err-clause-passed g c =
    PassesOn-then g.R.Source.remaining g.R.Source.notes _ c.loop.reader c.advance.new.reader c.loop.invariant.7 c.in-Err.ensures.passed

pub returns-in-Err-2-clause-passed : goal.returns-in-Err-2-clause-passed
returns-in-Err-2-clause-passed g c =
    PassesOn-then g.R.Source.remaining g.R.Source.notes _ c.loop.reader c.advance.new.reader c.loop.invariant.7 c.in-Err.ensures.passed

pub returns-in_err-add_record-clause-passed : goal.returns-in_err-add_record-clause-passed
returns-in_err-add_record-clause-passed g c =
    PassesOn-then g.R.Source.remaining g.R.Source.notes _ c.loop.reader c.advance.new.reader c.loop.invariant.7 c.in-Ok-Some.ensures.passed

pub returns-in-Err-clause-records : goal.returns-in-Err-clause-records
returns-in-Err-clause-records g c =
    let fault = c.in-Err.fault in
    let read = c.loop.invariant.0 in
    let why = c.in-Err.ensures.step.err c.loop.invariant.2 in
    let next = refused fault (order_in c.loop.records) (count_in c.loop.records) (room_in c.loop.records) _ _ _ _ _ _ (sym c.if-is_refusal.ensures)
    (subst (λ (n : ℕ). HasRead (order_in c.loop.records) n (g.R.Source.remaining c.args.reader.now) (g.R.Source.remaining c.loop.reader)) (sym c.loop.invariant.3) read) why in
    subst (λ (s : Findings). ReadsRecords s.fault s.records (g.R.Source.remaining c.args.reader.now) (g.R.Source.remaining c.advance.new.reader)) (sym c.set_fault.ensures)
    (subst (λ (n : ℕ). RefusesNext fault n (g.R.Source.remaining c.args.reader.now) (g.R.Source.remaining c.advance.new.reader)) (c.loop.invariant.3 ∙ sym c.loop.invariant.4) next)
