use Rattle.std.proofs.Common.{◌≡◌, ◌∙◌, inr, IsSomeAnd, Option, refl, rules, subst, sym}
use Rattle.rasta_udp.specs.Frame.{packet_of}
use Rattle.rasta_pdu.specs.Pdu.{value_of}
use Rattle.seatmelon_reading.specs.Told.{IsFound}
use Rattle.seatmelon_reading.specs.declared.capture_refusal.Beside.{Beside}
use Rattle.seatmelon_reading.specs.declared.capture_refusal.Wanted.{Wanted}
use Rattle.seatmelon_reading.proofs.Found.{later_found}
use Rattle.seatmelon_reading.proofs.capture_refusal.CaptureRefusal.seek.Goals as goal

pub returns-in_ok-bytes-in-Ok-clause-beside : goal.returns-in_ok-bytes-in-Ok-clause-beside
returns-in_ok-bytes-in-Ok-clause-beside c x e =
    let packet = packet_of c.args.packet.now in
    let made : Beside = record { sighting = c.args.sighting; bytes = c.in_ok-bytes-in-Ok.bytes } in
    let side : c.args.packet.now.side ≡ c.in-Some.wanted.side = search rules in
    inr (subst (λ (o : Option Wanted). IsSomeAnd o (λ w. IsFound w c.args.sighting packet x)) (sym c.in-Some.is)
    (later_found c.args.params.now c.in-Some.wanted c.args.sighting packet (value_of c.in-Ok.pdu) made x e side c.in-Ok.ensures.spelled
    (sym c.number.ensures ∙ c.if-number-wanted.true) refl c.in_ok-bytes-in-Ok.ensures.copy))
