use Rattle.std.proofs.Common.{◌≡◌, Option, length, map, sym, subst, arith}
use Rattle.rasta_check.proofs.Prelude.{length-map, packet_of, Pdu, Crossing, IsCrossing, sent_by, crossing_with, map_push}
use Rattle.rasta_check.specs.declared.sent_packets.Sent.TheInside.{Inside}
use Rattle.rasta_check.specs.Internals.Packets.{with_new}
use Rattle.rasta_check.proofs.Capture.Crossings.{after_client, after_server, after_repeat}
use Rattle.rasta_check.proofs.sent_packets.Sent.push.Goals as goal
use Rattle.rasta_check.proofs.sent_packets.Sent.push.Goals.{in-Some+in-Client+in_ok-push-in-Client, in-Some+in-Server+in_ok-push-in-Server, in_default}

pub invariant_of-self-2 : goal.invariant_of-self-2
invariant_of-self-2 c =
    let old = c.self.inside in
    let items = old.packets.items in
    let x = c.args.found in
    let a = packet_of x in
    let k : Crossing = record { params = old.params; packets = map packet_of items; client = old.client; server = old.server } in
    let whole : Option Pdu → Crossing = λ (new : Option Pdu). crossing_with k a a.side (with_new (sent_by k a.side) (length k.packets) new) in
    let may : IsCrossing (whole c.args.new) =
    subst (λ (q : Crossing). IsCrossing (crossing_with q a a.side (with_new (sent_by q a.side) (length q.packets) c.args.new))) (sym c.self.view_is)
    (rw c.requires.judged at c.requires.crossing) in
    let kept : c.try_reserve.new.self.items ≡ items = c.in_ok-try_reserve.ensures.items in
    let parts : Inside → Crossing = λ (y : Inside). record { params = y.params; packets = map packet_of c.push_reserved.new.self.items; client = y.client; server = y.server } in
    let size = length-map items packet_of in
    let all = map_push packet_of items in
    let made : parts c.match-new.self-inside ≡ whole c.args.new =
    elim c.match-new.branch [
      | in-Some+in-Client+in_ok-push-in-Client w ↦ (let is = w.self-inside-is in let pushed = w.in_ok-push-in-Client.ensures.ok in grind (arith, map_push, after_client))
      | in-Some+in-Server+in_ok-push-in-Server w ↦ (let is = w.self-inside-is in let pushed = w.in_ok-push-in-Server.ensures.ok in grind (arith, map_push, after_server))
      | in_default w ↦ (let is = w.self-inside-is in grind (arith, map_push, after_repeat))
    ] in
    subst IsCrossing (sym made) may
