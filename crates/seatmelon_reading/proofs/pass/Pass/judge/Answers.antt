use Rattle.std.proofs.Common.{◌∙◌, None, Ok, Err, [], ◌∷◌, ◌++◌, Result, true, ap, inr, refl, subst, sym}
use Rattle.rasta_pcap.specs.declared.fault.Fault.{Fault}
use Rattle.rasta_pcap.proofs.Sending.{where_succeeded}
use Rattle.rasta_check.specs.Capture.Building.{crossed_in}
use Rattle.rasta_check.specs.Capture.Crossing.{Crossing}
use Rattle.seatmelon_reading.specs.Reading.{HasCrossed}
use Rattle.seatmelon_reading.specs.Sights.{IsSightOf}
use Rattle.seatmelon_reading.specs.declared.notes.Notes.{Notes}
use Rattle.seatmelon_reading.specs.declared.sight.Sight.{Sight}
use Rattle.seatmelon_reading.proofs.Passing.{judged_read, next_none, next_read, where_both, where_then}
use Rattle.seatmelon_reading.proofs.Told.{left_out_same, made_next, none_of, none_same, still_next, true_as}
use Rattle.seatmelon_reading.proofs.Unjudged.{unjudged_same, unjudged_still}
use Rattle.seatmelon_reading.proofs.pass.Pass.judge.Goals as goal

abbrev refused : Fault → Result Crossing Fault
refused f = Err f

-- ---- a packet that can't be read

pub returns-in-Unreadable-clause-standing : goal.returns-in-Unreadable-clause-standing
returns-in-Unreadable-clause-standing c =
    let pass = c.args.self.now in
    let read = subst (λ (s : Sight). IsSightOf pass.params pass.without.now (c.args.record.now.number, c.args.record.now.bytes.now) s) c.in-Unreadable.is c.requires.sight in
    let none = none_of pass.refusal true c.if-is_none-2.ensures refl in
    where_then c.refuse.result (λ is. is ∙ ap refused c.at-fault.ensures
    ∙ sym (next_read pass.params pass.without.now (crossed_in pass.builder) pass.refusal (c.args.record.now.number, c.args.record.now.bytes.now) (Err c.in-Unreadable.fault) none pass.recorded
    read.0 c.requires.inside.0 c.requires.inside.1 read.1)) c.refuse.ensures.standing

pub returns-in-Unreadable-clause-told : goal.returns-in-Unreadable-clause-told
returns-in-Unreadable-clause-told c =
    let pass = c.args.self.now in
    let read = subst (λ (s : Sight). IsSightOf pass.params pass.without.now (c.args.record.now.number, c.args.record.now.bytes.now) s) c.in-Unreadable.is c.requires.sight in
    let none = none_of pass.refusal true c.if-is_none-2.ensures refl in
    let kept = c.refuse.ensures.kept in
    let fails = judged_read pass.params (crossed_in pass.builder) (c.args.record.now.number, c.args.record.now.bytes.now) (Err c.in-Unreadable.fault) pass.recorded c.requires.inside.0 c.requires.inside.1
    read.1 ∙ ap refused (sym c.at-fault.ensures) in
    where_both c.refuse.result (λ made told records q passed count is timed.
    true_as _ _ _ _ _ _ (records ++ q ∷ []) c.refuse.new.self.refusal (ap (λ (n : Notes). n.zero_is_no_time) (sym kept.notes)) (sym kept.params) (sym kept.without)
    (made_next pass.notes.zero_is_no_time pass.params pass.without.now records q (crossed_in pass.builder) (crossed_in pass.builder) c.at-fault.result c.args.record.now.number c.args.record.now.bytes.now
    c.args.time pass.notes c.refuse.new.self.refusal refl refl (subst (HasCrossed pass.params pass.without.now records (crossed_in pass.builder)) none passed.stored) made passed.noted
    (inr fails) told.0 is timed passed.lower read.0 c.requires.inside.0 c.requires.inside.1)) c.refuse.ensures.made c.refuse.ensures.told

pub returns-in-Unreadable-clause-unjudged : goal.returns-in-Unreadable-clause-unjudged
returns-in-Unreadable-clause-unjudged c =
    let pass = c.args.self.now in
    let new = c.refuse.new.self in
    let behind = c.refuse.ensures.behind in
    let read = subst (λ (s : Sight). IsSightOf pass.params pass.without.now (c.args.record.now.number, c.args.record.now.bytes.now) s) c.in-Unreadable.is c.requires.sight in
    where_succeeded c.refuse.result (λ records q stored before is.
    unjudged_still pass.params pass.without.now (records ++ q ∷ []) (crossed_in pass.builder) (crossed_in new.builder) pass.unjudged new.unjudged behind.0 behind.1
    (unjudged_same pass.params pass.without.now records q (crossed_in pass.builder) pass.unjudged
    (none_same pass.params pass.without.now records q c.args.record.now.number c.args.record.now.bytes.now (Err c.in-Unreadable.fault) read.1 refl is read.0) before))

-- ---- the same, once the capture is refused

pub returns-in-Unreadable-2-clause-told : goal.returns-in-Unreadable-2-clause-told
returns-in-Unreadable-2-clause-told c records q passed count is timed =
    let pass = c.args.self.now in
    let read = subst (λ (s : Sight). IsSightOf pass.params pass.without.now (c.args.record.now.number, c.args.record.now.bytes.now) s) c.in-Unreadable-2.is c.requires.sight in
    still_next pass.notes.zero_is_no_time pass.params pass.without.now records q pass.refusal c.args.record.now.number c.args.record.now.bytes.now is
    (none_same pass.params pass.without.now records q c.args.record.now.number c.args.record.now.bytes.now (Err _) read.1 refl is read.0) passed.refused passed.told

pub returns-in-Unreadable-2-clause-unjudged : goal.returns-in-Unreadable-2-clause-unjudged
returns-in-Unreadable-2-clause-unjudged c records q stored before is =
    let pass = c.args.self.now in
    let read = subst (λ (s : Sight). IsSightOf pass.params pass.without.now (c.args.record.now.number, c.args.record.now.bytes.now) s) c.in-Unreadable-2.is c.requires.sight in
    unjudged_same pass.params pass.without.now records q (crossed_in pass.builder) pass.unjudged
    (none_same pass.params pass.without.now records q c.args.record.now.number c.args.record.now.bytes.now (Err _) read.1 refl is read.0) before

-- ---- a record that is left out

pub returns-in-LeftOut-clause-told : goal.returns-in-LeftOut-clause-told
returns-in-LeftOut-clause-told c records q passed count is timed =
    let pass = c.args.self.now in
    let left = subst (λ (s : Sight). IsSightOf pass.params pass.without.now (c.args.record.now.number, c.args.record.now.bytes.now) s) c.in-LeftOut.is c.requires.sight in
    still_next pass.notes.zero_is_no_time pass.params pass.without.now records q pass.refusal c.args.record.now.number c.args.record.now.bytes.now is
    (left_out_same pass.params pass.without.now records q c.args.record.now.number c.args.record.now.bytes.now is left) passed.refused passed.told

pub returns-in-LeftOut-clause-unjudged : goal.returns-in-LeftOut-clause-unjudged
returns-in-LeftOut-clause-unjudged c records q stored before is =
    let pass = c.args.self.now in
    let left = subst (λ (s : Sight). IsSightOf pass.params pass.without.now (c.args.record.now.number, c.args.record.now.bytes.now) s) c.in-LeftOut.is c.requires.sight in
    unjudged_same pass.params pass.without.now records q (crossed_in pass.builder) pass.unjudged
    (left_out_same pass.params pass.without.now records q c.args.record.now.number c.args.record.now.bytes.now is left) before

-- ---- one without a packet

pub returns-in-Passed-clause-standing : goal.returns-in-Passed-clause-standing
returns-in-Passed-clause-standing c =
    let pass = c.args.self.now in
    let read = subst (λ (s : Sight). IsSightOf pass.params pass.without.now (c.args.record.now.number, c.args.record.now.bytes.now) s) c.in-Passed.is c.requires.sight in
    next_none pass.params pass.without.now (crossed_in pass.builder) pass.refusal (c.args.record.now.number, c.args.record.now.bytes.now) pass.recorded read.0 c.requires.inside.0 c.requires.inside.1 read.1

pub returns-in-Passed-clause-told : goal.returns-in-Passed-clause-told
returns-in-Passed-clause-told c records q passed count is timed =
    let pass = c.args.self.now in
    let read = subst (λ (s : Sight). IsSightOf pass.params pass.without.now (c.args.record.now.number, c.args.record.now.bytes.now) s) c.in-Passed.is c.requires.sight in
    still_next pass.notes.zero_is_no_time pass.params pass.without.now records q pass.refusal c.args.record.now.number c.args.record.now.bytes.now is
    (none_same pass.params pass.without.now records q c.args.record.now.number c.args.record.now.bytes.now (Ok None) read.1 refl is read.0) passed.refused passed.told

pub returns-in-Passed-clause-unjudged : goal.returns-in-Passed-clause-unjudged
returns-in-Passed-clause-unjudged c records q stored before is =
    let pass = c.args.self.now in
    let read = subst (λ (s : Sight). IsSightOf pass.params pass.without.now (c.args.record.now.number, c.args.record.now.bytes.now) s) c.in-Passed.is c.requires.sight in
    unjudged_same pass.params pass.without.now records q (crossed_in pass.builder) pass.unjudged
    (none_same pass.params pass.without.now records q c.args.record.now.number c.args.record.now.bytes.now (Ok None) read.1 refl is read.0) before
