use Rattle.std.proofs.Common.{length, ap, sym, ◌∙◌}
use Rattle.rasta_check.proofs.Prelude.{packet_of, sent_by}
use Rattle.rasta_check.proofs.Capture.Crossings.{grown_crossing, new_length, within_room}
use Rattle.rasta_check.proofs.sent_packets.Sent.add_packet.Goals as goal

pub push-requires-clause-crossing : goal.push-requires-clause-crossing
push-requires-clause-crossing c =
    let k = c.args.self.now in
    let a = packet_of c.args.found in
    let room = within_room k a _ c.has_room.ensures.crossing (ap length c.in-Ok.ensures.value.1 ∙ new_length (sent_by k a.side) (length k.packets) c.in-Ok.new) in
    grown_crossing k a c.has_room.ensures.crossing c.requires c.in-Ok.ensures.spelled c.in-Ok.ensures.value.0
    (room ∙ sym (rw c.is_some.ensures at c.has_room.ensures.value) ∙ c.if-not-has_room.false)
