use Rattle.rasta_check.proofs.Prelude.{packet_of, value_of}
use Rattle.rasta_check.proofs.Middle.SeenSteps.{nothing_seen, seen_as, spells_only}
use Rattle.rasta_check.proofs.shown.Shown.see.Goals as goal

pub returns-in_default-clause-ok : goal.returns-in_default-clause-ok
returns-in_default-clause-ok c = nothing_seen c.args.self.now (packet_of c.args.packet.now) (λ d spelled. c.in_default.ensures.read_back d spelled.fits spelled.same)

pub see_pdu-requires : goal.see_pdu-requires
see_pdu-requires c =
    let s = c.in-Ok.ensures.spelled in
    record {
      spelled = (
        packet_of c.args.packet.now,
        spells_only c.args.self.now.params (packet_of c.args.packet.now) (value_of c.in-Ok.pdu) (record { fits = s.0; same = s.1 })
            (λ e spelled. c.in-Ok.ensures.read_back e spelled.fits spelled.same),
      );
    }

pub returns-clause-ok : goal.returns-clause-ok
returns-clause-ok c =
    let s = c.in-Ok.ensures.spelled in
    seen_as c.see_pdu.result c.args.self.now _ c.args.packet.now.side (value_of c.in-Ok.pdu) (packet_of c.args.packet.now)
    (spells_only c.args.self.now.params (packet_of c.args.packet.now) (value_of c.in-Ok.pdu) (record { fits = s.0; same = s.1 })
    (λ e spelled. c.in-Ok.ensures.read_back e spelled.fits spelled.same))
    c.see_pdu.ensures.ok
