use Rattle.std.proofs.Common.{◌∙◌, sym}
use Rattle.rasta_udp.specs.Frame.{packet_of}
use Rattle.seatmelon_account.proofs.Signs.{none_added, sign_added}
use Rattle.seatmelon_account.proofs.lives.Watch.add.Goals as goal

pub returns-then-add : goal.returns-then-add
returns-then-add c l h =
    let packet = packet_of c.args.packet.now in
    sign_added c.args.params.now c.args.packets.now l packet c.args.self.now.course h.course _ (sym c.add.ensures.sign ∙ c.if-add.true)
    (c.add_sign.ensures _ (record { course = c.add.ensures.course; client = h.client; server = h.server }))

pub returns-else-add : goal.returns-else-add
returns-else-add c l h =
    none_added c.args.params.now c.args.packets.now l (packet_of c.args.packet.now) c.args.self.now.course h.course _ (sym c.add.ensures.sign ∙ c.if-add.false)
    c.add.ensures.course h.client h.server
