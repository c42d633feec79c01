use Rattle.std.proofs.Common.{sym, ◌∙◌}
use Rattle.rasta_check.proofs.Prelude.{packet_of, value_of}
use Rattle.rasta_check.proofs.Capture.Crossings.{is_next_pdu}
use Rattle.rasta_check.proofs.Capture.SameBytes.{same_judged}
use Rattle.rasta_check.proofs.Internals.StoreLists.{differs_at, skips}
use Rattle.rasta_check.proofs.packet_store.Store.judge.Goals as goal

pub returns-then-is_next-clause-value : goal.returns-then-is_next-clause-value
returns-then-is_next-clause-value c =
    let reads = rw c.kept_params-p.ensures.value at c.in-Ok.ensures.value in
    let spelled = rw c.kept_params-p.ensures.value at c.in-Ok.ensures.spelled in
    let w = is_next_pdu c.args.self.now (packet_of c.args.found.now) c.in-Ok.pdu c.kept_params-p.ensures.crossing reads (rw c.number-number.ensures at (sym c.is_next.ensures ∙ c.if-is_next.true)) in
    (w.0, (value_of c.in-Ok.pdu, reads, record { fits = spelled.0; same = spelled.1 }, w.1))

pub returns-in-Some-clause-spelled : goal.returns-in-Some-clause-spelled
returns-in-Some-clause-spelled c =
    let e = rw c.in-Some.is at c.repeated.ensures.value in
    let w = same_judged c.args.self.now c.repeated.ensures.crossing (packet_of c.args.found.now) c.in-Some.position e.0 e.1 e.2 in
    (e.0.pdu, w.0, w.1)

pub returns-in-Some-clause-value : goal.returns-in-Some-clause-value
returns-in-Some-clause-value c =
    let e = rw c.in-Some.is at c.repeated.ensures.value in
    let w = same_judged c.args.self.now c.repeated.ensures.crossing (packet_of c.args.found.now) c.in-Some.position e.0 e.1 e.2 in
    (w.2, (e.0, e.1, e.2, w.3))

pub returns-in-Some-position_of-clause-value : goal.returns-in-Some-position_of-clause-value
returns-in-Some-position_of-clause-value c =
    differs_at c.args.self.now (packet_of c.args.found.now) (value_of c.in-Ok.pdu) (rw c.kept_params-p.ensures.value at c.in-Ok.ensures.value) c.in-Some-position_of.field-0
    (rw c.number-number.ensures at (sym c.position_of.ensures.value ∙ c.in-Some-position_of.is)) c.in_default.ensures.value

pub returns-in-None-clause-value : goal.returns-in-None-clause-value
returns-in-None-clause-value c =
    skips c.args.self.now (packet_of c.args.found.now) (value_of c.in-Ok.pdu) (rw c.kept_params-p.ensures.value at c.in-Ok.ensures.value)
    (rw c.number-number.ensures at (sym c.position_of.ensures.value ∙ c.in-None.is)) (rw c.number-number.ensures at (sym c.is_next.ensures ∙ c.if-is_next.false))
