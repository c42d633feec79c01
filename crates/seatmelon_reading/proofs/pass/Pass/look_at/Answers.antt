use Rattle.std.proofs.Common.{◌≢◌, ◌∙◌, ap, refl, arith}
use Rattle.rasta_pcap.specs.declared.fault.Fault.{Fault}
use Rattle.rasta_pcap.specs.Fault.{no_memory, read_failed}
use Rattle.rasta_pcap.proofs.Sending.{where_succeeded}
use Rattle.rasta_udp.specs.Frame.{packet_of}
use Rattle.rasta_check.specs.Capture.Building.{crossed_in}
use Rattle.seatmelon_reading.specs.Times.{time_told}
use Rattle.seatmelon_reading.proofs.Told.{looked_codes, looked_next, packet_of_record, same_due, same_fault, same_wanted}
use Rattle.seatmelon_reading.proofs.Unjudged.{unjudged_next}
use Rattle.seatmelon_reading.proofs.pass.Pass.look_at.Goals as goal

pub invariant_of-self-in-Some : goal.invariant_of-self-in-Some
invariant_of-self-in-Some c =
    let pass = c.args.self.now in
    let kept = c.look_at.ensures.kept in record {
      window = pass.window;
      recorded = pass.recorded;
      told = same_fault (λ (f : Fault). (f ≢ no_memory) × (f ≢ read_failed)) pass.refusal c.in-Some.refusal c.look_at.new.self c.in-Some.is kept pass.told;
      due = same_due (crossed_in pass.builder) pass.refusal c.in-Some.refusal c.look_at.new.self c.in-Some.is kept pass.due;
      wanted = same_wanted pass.params pass.refusal c.in-Some.refusal c.look_at.new.self c.in-Some.is kept pass.wanted;
      taping = c.add.ensures.kept ∙ pass.taping;
    }

pub returns-in-Some-clause-told : goal.returns-in-Some-clause-told
returns-in-Some-clause-told c = where_succeeded c.look_at.result (λ records q passed count is timed.
    let pass = c.args.self.now in
    let p = pass.params in
    let without = pass.without.now in
    let zero = pass.notes.zero_is_no_time in
    let number = c.args.record.now.number in
    let bytes = c.args.record.now.bytes.now in
    let a = packet_of c.args.found.now in
    let first = c.requires.inside.0 in
    let last = c.requires.inside.1 in
    let here = packet_of_record zero p without q a number bytes c.time_told.result c.requires.found is (c.time_told.ensures ∙ ap (time_told zero) timed) c.requires.stays first last in
    looked_next zero p without records q _ a number bytes pass.refusal c.in-Some.refusal c.look_at.new.self is c.in-Some.is passed.told c.look_at.ensures.kept
    c.look_at.ensures.beside pass.wanted here passed.refused
    (looked_codes zero p without records q a number bytes c.in-Some.refusal c.look_at.new.self c.requires.found is c.requires.stays first last
    count (omega (arith, last, pass.window.last_most)) c.look_at.ensures.codes))

pub returns-in-Some-clause-unjudged : goal.returns-in-Some-clause-unjudged
returns-in-Some-clause-unjudged c = where_succeeded c.look_at.result (λ records q stored before is.
    let pass = c.args.self.now in
    unjudged_next pass.params pass.without.now records q c.args.record.now.number c.args.record.now.bytes.now is c.requires.stays c.requires.inside.0 c.requires.inside.1
    (crossed_in pass.builder) (crossed_in pass.builder) pass.unjudged c.add.new.self (packet_of c.args.found.now) c.requires.found refl (c.in_ok-add.ensures.added (c.add.ensures.kept ∙ pass.taping)) before)

pub returns-in-None-clause-unjudged : goal.returns-in-None-clause-unjudged
returns-in-None-clause-unjudged c records q stored before is =
    let pass = c.args.self.now in
    unjudged_next pass.params pass.without.now records q c.args.record.now.number c.args.record.now.bytes.now is c.requires.stays c.requires.inside.0 c.requires.inside.1
    (crossed_in pass.builder) (crossed_in pass.builder) pass.unjudged c.add.new.self (packet_of c.args.found.now) c.requires.found refl (c.in_ok-add.ensures.added (c.add.ensures.kept ∙ pass.taping)) before
