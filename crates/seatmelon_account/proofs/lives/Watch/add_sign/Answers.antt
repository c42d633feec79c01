use Rattle.std.proofs.Common.{subst, sym}
use Rattle.rasta_pcap.specs.declared.fault.Side.{Side}
use Rattle.seatmelon_account.specs.Lives.{IsWatch, lives_with_sign}
use Rattle.seatmelon_account.proofs.Signs.{client_signed, server_signed, watch}
use Rattle.seatmelon_account.proofs.lives.Watch.add_sign.Goals as goal

pub returns-in-Client : goal.returns-in-Client
returns-in-Client c l h =
    subst (λ (s : Side). IsWatch (lives_with_sign c.args.packets.now l s c.args.place) (watch c.args.self.now.course c.add_at.new.search c.args.self.now.server)) (sym c.in-Client.is)
    (client_signed c.args.packets.now l c.args.self.now c.add_at.new.search c.args.place h (c.add_at.ensures l.client h.client))

pub returns-in-Server : goal.returns-in-Server
returns-in-Server c l h =
    subst (λ (s : Side). IsWatch (lives_with_sign c.args.packets.now l s c.args.place) (watch c.args.self.now.course c.args.self.now.client c.add_at-in-Server.new.search)) (sym c.in-Server.is)
    (server_signed c.args.packets.now l c.args.self.now c.add_at-in-Server.new.search c.args.place h (c.add_at-in-Server.ensures l.server h.server))
