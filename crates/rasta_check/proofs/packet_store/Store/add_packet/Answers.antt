use Rattle.std.proofs.Common.{sym, ◌∙◌}
use Rattle.rasta_check.proofs.Prelude.{packet_of}
use Rattle.rasta_check.proofs.Capture.Crossings.{grown_crossing, within_room}
use Rattle.rasta_check.proofs.Internals.StoreGrowth.{judged_length}
use Rattle.rasta_check.proofs.packet_store.Store.add_packet.Goals as goal

pub push-requires-clause-crossing : goal.push-requires-clause-crossing
push-requires-clause-crossing c =
    let k = c.args.self.now in
    let a = packet_of c.args.found.now in
    let room = within_room k a c.is_none.result c.has_room.ensures.crossing (judged_length k a c.in-Ok.known c.is_none.result c.in-Ok.ensures.value.1 c.is_none.ensures) in
    grown_crossing k a c.has_room.ensures.crossing c.requires c.in-Ok.ensures.spelled c.in-Ok.ensures.value.0 (room ∙ sym c.has_room.ensures.value ∙ c.if-not-has_room.false)
