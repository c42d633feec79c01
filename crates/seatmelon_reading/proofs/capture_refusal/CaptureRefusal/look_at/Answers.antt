use Rattle.std.proofs.Common.{◌≡◌, ◌⊎◌, IsSomeAnd, Some, subst}
use Rattle.rasta_udp.specs.Frame.{packet_of}
use Rattle.seatmelon_reading.specs.Told.{IsFound}
use Rattle.seatmelon_reading.specs.declared.capture_refusal.CaptureRefusal.{CaptureRefusal}
use Rattle.seatmelon_reading.proofs.capture_refusal.CaptureRefusal.look_at.Goals as goal
use Rattle.seatmelon_reading.proofs.capture_refusal.CaptureRefusal.look_at.Goals.{else-self-sighting, then-self-sighting}

pub returns-clause-beside : goal.returns-clause-beside
returns-clause-beside c x e =
    let found = λ (r : CaptureRefusal). (r.beside ≡ Some x) ⊎ IsSomeAnd r.wanted (λ wanted. IsFound wanted c.args.sighting (packet_of c.args.packet.now) x) in
    elim c.if-self-sighting.branch [
      | then-self-sighting w ↦ subst found w.self-is (c.seek.ensures.beside x e)
      | else-self-sighting w ↦ subst found w.self-is (c.seek.ensures.beside x e)
    ]
