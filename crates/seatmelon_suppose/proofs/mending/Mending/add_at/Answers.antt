use Rattle.std.proofs.Common.{[], ◌∷◌, ◌++◌, ℕ, List, map, OnOk, subst}
use Rattle.std.proofs.lemmas.Result.{on_ok_weaker}
use Rattle.rasta_udp.specs.Frame.{Packet}
use Rattle.seatmelon_reading.specs.Tapes.{numbered_with, taped_as}
use Rattle.seatmelon_suppose.specs.Mending.{Takes, origins_at, supposed_at}
use Rattle.seatmelon_suppose.specs.Spelling.{packet_supposed}
use Rattle.seatmelon_suppose.proofs.Crossed.{takes-then}
use Rattle.seatmelon_suppose.proofs.mending.Mending.add_at.Goals as goal

pub returns : goal.returns
returns c =
    let old = c.args.self.now in
    let new = c.add.new.self in
    let t = c.args.taped.now in
    let s = c.args.supposed.now in
    let front = map (packet_supposed c.args.params.now (map taped_as c.args.packets.now) t.«record») (supposed_at s c.args.place) in
    let packet = λ (payload : List ℕ). (let packet : Packet = record { channel = t.channel; side = t.sender; payload = payload } in packet) in
    subst (λ payload. OnOk c.add.result (Takes old new (front ++ numbered_with t.«record» (packet payload) ∷ []) (origins_at s c.args.place))) c.deref.ensures.value
    (on_ok_weaker c.add.result (takes-then old c.add_all_supposed.new.self new _ _ _ _ c.in_ok-add_all_supposed.ensures) c.add.ensures)
