use Rattle.std.proofs.Common.{◌≡◌, ◌∙◌, Some, ap, length, refl, slice_get, sym}
use Rattle.std.proofs.lemmas.Option.{slice_get_read}
use Rattle.rasta_check.specs.Capture.Lists.{position_of_number}
use Rattle.seatmelon_reading.specs.declared.capture_refusal.Beside.{Beside}
use Rattle.seatmelon_reading.proofs.Found.{first_found}
use Rattle.seatmelon_reading.proofs.capture_refusal.packet_beside.Goals as goal

pub returns-in_ok-copied-in-Some-get-clause-found : goal.returns-in_ok-copied-in-Some-get-clause-found
returns-in_ok-copied-in-Some-get-clause-found c x e =
    let sightings = c.args.notes.now.packets.items in
    let place = c.in-Some-datagram.place in
    let first = c.in-Some-datagram.ensures.value in
    let made : Beside = record { sighting = c.in-Some-get.sighting.now; bytes = c.in_ok-copied-in-Some-get.field-0 } in
    let there = c.in-Some-get.ensures.lookup in
    let read = slice_get_read c.deref.result.now (length c.deref.result.now) place made.sighting refl there.3.0 there.1 in
    let noted : slice_get sightings first.0.place ≡ Some made.sighting = ap (slice_get sightings) (sym first.2) ∙ ap (λ l. slice_get l place) (sym c.deref.ensures.value) ∙ read in
    first_found c.args.store.now sightings c.args.wanted c.in-Some.position first.0 made x e c.in-Some-datagram.ensures.crossing
    (ap (λ l. position_of_number l c.args.wanted.number) (sym c.list_of.ensures) ∙ sym c.in-Some.ensures.value) first.1 noted
    (c.in_ok-copied-in-Some-get.ensures.copy ∙ first.3)
