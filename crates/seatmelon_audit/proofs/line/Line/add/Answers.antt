use Rattle.std.proofs.Common.{◌∙◌, Bool, ap, arith, cond, refl, sym}
use Rattle.rasta_pcap.specs.Capture.{Numbered}
use Rattle.rasta_pdu.specs.Params.{Parameters}
use Rattle.rasta_check.specs.Capture.Reading.{packet_at}
use Rattle.seatmelon_audit.specs.Records.{span_with, stamp_at}
use Rattle.seatmelon_audit.specs.Shown.{opens_by, opens_with}
use Rattle.seatmelon_audit.specs.declared.line.Span.{Span}
use Rattle.seatmelon_audit.proofs.Showing.{opens_still}
use Rattle.seatmelon_audit.proofs.Standings.{line_behind, line_passed}
use Rattle.seatmelon_audit.proofs.line.Line.add.Goals as goal

pub returns-then-record-last_record-clause-line : goal.returns-then-record-last_record-clause-line
returns-then-record-last_record-clause-line c =
    line_behind c.args.self.now _ (c.args.record.now.number, c.args.record.now.bytes.now) c.args.time (omega (arith, c.if-record-last_record.true, c.last_record.ensures.value))
    (record { params = refl; builder = refl; packets = refl; standing = refl; shown = refl; course = refl }) refl refl refl

pub returns-then-held-clause-line : goal.returns-then-held-clause-line
returns-then-held-clause-line c =
    let r : Numbered = (c.args.record.now.number, c.args.record.now.bytes.now) in
    let old = c.args.self.now in
    let mid = c.pass-held.new.self in
    let passed = c.pass-held.ensures.kept in
    let noted = c.note_opening.ensures.kept in
    line_passed old _ mid _ r c.args.time (omega (arith, c.if-record-last_record.false, c.last_record.ensures.value))
    (record { params = refl; builder = refl; packets = refl; standing = refl; shown = refl; course = refl })
    c.pass-held.ensures.stands
    (record { params = noted.0; builder = noted.1; packets = noted.2; standing = noted.3; shown = noted.4; course = noted.5 })
    (noted.0 ∙ passed.0)
    (c.note_opening.ensures.opens ∙ ap (λ o. opens_with o (opens_by mid.params (packet_at mid.params r))) passed.2
    ∙ ap (λ (p : Parameters). opens_with old.opens (opens_by p (packet_at p r))) passed.0)
    (c.add.ensures ∙ ap (λ (s : Span). span_with s (stamp_at r.0 c.args.time)) (noted.7 ∙ passed.3)
    ∙ ap (λ (b : Bool). cond b (span_with old.span (stamp_at r.0 c.args.time)) old.span) (sym c.if-held.true ∙ c.pass-held.ensures.held))
    (noted.6 ∙ passed.1)

pub returns-else-held-clause-line : goal.returns-else-held-clause-line
returns-else-held-clause-line c =
    let r : Numbered = (c.args.record.now.number, c.args.record.now.bytes.now) in
    let old = c.args.self.now in
    let passed = c.pass-held.ensures.kept in
    let none = sym c.pass-held.ensures.held ∙ c.if-held.false in
    line_passed old _ c.pass-held.new.self c.pass-held.new.self r c.args.time (omega (arith, c.if-record-last_record.false, c.last_record.ensures.value))
    (record { params = refl; builder = refl; packets = refl; standing = refl; shown = refl; course = refl })
    c.pass-held.ensures.stands
    (record { params = refl; builder = refl; packets = refl; standing = refl; shown = refl; course = refl })
    passed.0
    (passed.2 ∙ opens_still old.params old.opens (packet_at old.params r) none)
    (passed.3 ∙ ap (λ (b : Bool). cond b (span_with old.span (stamp_at r.0 c.args.time)) old.span) (sym none))
    passed.1
