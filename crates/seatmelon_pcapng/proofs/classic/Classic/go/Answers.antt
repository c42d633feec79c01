use Rattle.std.proofs.Common.{◌≡◌, ◌+◌, ◌%◌, ◌^◌, ◌++◌, refl, subst, take}
use Rattle.std.specs.List.{flat_map}
use Rattle.seatmelon_pcapng.specs.Memory.{bytes_held, bytes_of}
use Rattle.seatmelon_pcapng.specs.Readings.{packet_bytes, packets_in}
use Rattle.seatmelon_pcapng.specs.Sections.{interfaces_in, link_types_met, order_in}
use Rattle.seatmelon_pcapng.proofs.Staying.{remarks-gone}
use Rattle.seatmelon_pcapng.proofs.Ways.{left-gone}
use Rattle.seatmelon_pcapng.proofs.classic.Classic.go.Goals as goal

pub returns-clause-left : goal.returns-clause-left
returns-clause-left g c =
    let old = c.args.self.now in
    let front = c.args.front in
    let turn = c.args.turn.now in
    let spelled : bytes_held c.spell.new.held ≡ bytes_held old.held ++ flat_map packet_bytes (packets_in (take front.len (bytes_of old.blocks)) turn) =
    subst (λ l. bytes_held c.spell.new.held ≡ bytes_held old.held ++ flat_map packet_bytes (packets_in (take front.len l) turn)) c.bytes.ensures c.in_ok-spell.ensures.held in
    left-gone (order_in old.section) (interfaces_in old.section) old.at (bytes_held old.held) (bytes_of old.blocks) (g.S.Source.remaining old.source)
    old.progress front turn c.requires.reading c.requires.next c.requires.whole
    (order_in c.pass.new.self) (interfaces_in c.pass.new.self) ((old.at + front.len) % 2 ^ 64) (bytes_held c.spell.new.held) (bytes_of c.pass-2.new.self)
    c.in_ok-pass.ensures.order c.in_ok-pass.ensures.interfaces refl spelled c.pass-2.ensures

pub returns-clause-remarks : goal.returns-clause-remarks
returns-clause-remarks g c =
    let old = c.args.self.now in
    let front = c.args.front in
    remarks-gone (link_types_met old.section) (order_in old.section) (interfaces_in old.section) old.at (bytes_of old.blocks) (g.S.Source.remaining old.source) old.progress front c.args.turn.now
    c.requires.reading c.requires.next c.requires.whole
    (link_types_met c.pass.new.self) (order_in c.pass.new.self) (interfaces_in c.pass.new.self) ((old.at + front.len) % 2 ^ 64) (bytes_of c.pass-2.new.self)
    c.in_ok-pass.ensures.met c.in_ok-pass.ensures.order c.in_ok-pass.ensures.interfaces refl c.pass-2.ensures
