use Rattle.std.proofs.Common.{◌≡◌, ◌∙◌, Ok, Err, Some, [], ◌∷◌, ◌++◌, ap, refl, subst, sym, ⊎_elim, inl, inr}
use Rattle.rasta_udp.specs.Frame.{packet_of}
use Rattle.rasta_pcap.specs.Fault.{no_memory}
use Rattle.rasta_pdu.specs.Params.{Parameters}
use Rattle.rasta_check.proofs.Capture.Channels.{is_recorded}
use Rattle.rasta_check.specs.Capture.Building.{crossed_in}
use Rattle.rasta_check.specs.Capture.Reading.{after_packet}
use Rattle.rasta_check.specs.Capture.SentLists.{IsRecorded}
use Rattle.seatmelon_reading.specs.Reading.{HasCrossed, standing_with}
use Rattle.seatmelon_reading.specs.Tapes.{numbered_with, taped_in}
use Rattle.seatmelon_reading.specs.declared.notes.Notes.{Notes}
use Rattle.seatmelon_reading.specs.declared.tape.Tape.{Tape}
use Rattle.seatmelon_reading.proofs.Passing.{judged_read, kept_params, next_read}
use Rattle.seatmelon_reading.proofs.Told.{made_next, none_true, true_as}
use Rattle.seatmelon_reading.proofs.Unjudged.{unjudged_next, unjudged_taken}
use Rattle.seatmelon_reading.proofs.pass.Pass.take.Goals as goal

pub invariant_of-self : goal.invariant_of-self
invariant_of-self c =
    let pass = c.args.self.now in
    let read = judged_read pass.params (crossed_in pass.builder) (c.args.record.now.number, c.args.record.now.bytes.now) (Ok (Some (packet_of c.args.found.now))) pass.recorded c.requires.inside.0
    c.requires.inside.1 c.requires.found in record {
      window = pass.window;
      recorded = kept_params pass.params (crossed_in pass.builder) (crossed_in c.add_packet.new.self) (c.args.record.now.number, c.args.record.now.bytes.now) c.add_packet.result _ _
          c.add_packet.ensures.value (λ x e. read ∙ e) c.add_packet.ensures.kept pass.recorded;
      told = λ r e. pass.told r e;
      due = none_true _ pass.refusal c.requires.none;
      wanted = none_true _ pass.refusal c.requires.none;
      taping = pass.taping;
    }

pub add_packet-requires : goal.add_packet-requires
add_packet-requires c =
    let pass = c.args.self.now in
    subst (λ (p : Parameters). IsRecorded p c.args.found.now.channel) (sym pass.recorded)
    (is_recorded pass.params c.args.record.now.bytes.now (packet_of c.args.found.now) c.requires.found)

pub returns-in-Ok-clause-standing : goal.returns-in-Ok-clause-standing
returns-in-Ok-clause-standing c =
    let pass = c.args.self.now in
    ap (standing_with (crossed_in c.add_packet.new.self)) c.requires.none ∙ sym c.in-Ok.ensures.value
    ∙ sym (next_read pass.params pass.without.now (crossed_in pass.builder) pass.refusal (c.args.record.now.number, c.args.record.now.bytes.now) (Ok (Some (packet_of c.args.found.now)))
    c.requires.none pass.recorded c.requires.stays c.requires.inside.0 c.requires.inside.1 c.requires.found)

pub returns-in_ok-add-in-Err-clause-standing : goal.returns-in_ok-add-in-Err-clause-standing
returns-in_ok-add-in-Err-clause-standing c =
    let pass = c.args.self.now in
    let refuse = c.in_ok-refuse-in-Err.ensures in
    refuse.standing ∙ sym (⊎_elim (λ (none : c.in-Err.fault ≡ no_memory). absurd (refuse.told.0 none)) (λ (fails : after_packet (crossed_in pass.builder) c.args.record.now.number (packet_of c.args.found.now) ≡ Err c.in-Err.fault). fails) c.in-Err.ensures.value)
    ∙ sym (next_read pass.params pass.without.now (crossed_in pass.builder) pass.refusal (c.args.record.now.number, c.args.record.now.bytes.now) (Ok (Some (packet_of c.args.found.now)))
    c.requires.none pass.recorded c.requires.stays c.requires.inside.0 c.requires.inside.1 c.requires.found)

pub returns-in-Ok-clause-unjudged : goal.returns-in-Ok-clause-unjudged
returns-in-Ok-clause-unjudged c records q stored before is =
    let pass = c.args.self.now in
    let read = judged_read pass.params (crossed_in pass.builder) (c.args.record.now.number, c.args.record.now.bytes.now) (Ok (Some (packet_of c.args.found.now))) pass.recorded c.requires.inside.0 c.requires.inside.1 c.requires.found in
    let crossed = subst (HasCrossed pass.params pass.without.now records (crossed_in pass.builder)) c.requires.none stored in
    unjudged_taken pass.params pass.without.now records q (crossed_in pass.builder) (crossed_in c.add_packet.new.self) pass.unjudged c.args.record.now.number c.args.record.now.bytes.now is c.requires.stays
    c.requires.inside.1 crossed (read ∙ c.in-Ok.ensures.value) before

pub returns-in_ok-add-in-Err-clause-unjudged : goal.returns-in_ok-add-in-Err-clause-unjudged
returns-in_ok-add-in-Err-clause-unjudged c records q stored before is =
    let pass = c.args.self.now in
    let mid = c.refuse.new.self in
    let refuse = c.in_ok-refuse-in-Err.ensures in
    let added = c.in_ok-add-in-Err.ensures in
    let number = c.args.record.now.number in
    let bytes = c.args.record.now.bytes.now in
    let a = packet_of c.args.found.now in
    let taped : taped_in c.add.new.self ≡ taped_in pass.unjudged ++ numbered_with number a ∷ [] =
    added.added (added.kept ∙ mid.taping) ∙ ap (λ (t : Tape). taped_in t ++ numbered_with number a ∷ []) refuse.behind.1 in
    unjudged_next pass.params pass.without.now records q number bytes is c.requires.stays c.requires.inside.0 c.requires.inside.1 (crossed_in pass.builder) (crossed_in mid.builder) pass.unjudged
    c.add.new.self a c.requires.found (refuse.behind.0 ∙ c.in-Err.ensures.kept) taped before

pub returns-in_ok-add-in-Err-clause-told : goal.returns-in_ok-add-in-Err-clause-told
returns-in_ok-add-in-Err-clause-told c records q passed count is timed =
    let pass = c.args.self.now in
    let refuse = c.in_ok-refuse-in-Err.ensures in
    let read = judged_read pass.params (crossed_in pass.builder) (c.args.record.now.number, c.args.record.now.bytes.now) (Ok (Some (packet_of c.args.found.now))) pass.recorded c.requires.inside.0 c.requires.inside.1 c.requires.found in
    let crossed = subst (HasCrossed pass.params pass.without.now records (crossed_in pass.builder)) c.requires.none passed.stored in
    true_as _ _ _ _ _ _ (records ++ q ∷ []) c.refuse.new.self.refusal (ap (λ (n : Notes). n.zero_is_no_time) (sym refuse.kept.notes)) (sym refuse.kept.params) (sym refuse.kept.without)
    (made_next pass.notes.zero_is_no_time pass.params pass.without.now records q (crossed_in pass.builder) (crossed_in c.add_packet.new.self) c.in-Err.fault c.args.record.now.number c.args.record.now.bytes.now
    c.args.time pass.notes c.refuse.new.self.refusal refl c.in-Err.ensures.kept crossed refuse.made passed.noted
    (⊎_elim (λ (none : c.in-Err.fault ≡ no_memory). inl none) (λ fails. inr (read ∙ fails)) c.in-Err.ensures.value)
    refuse.told.0 is timed passed.lower c.requires.stays c.requires.inside.0 c.requires.inside.1)
