use Rattle.std.proofs.Common.{◌≡◌, ◌∙◌, ◌+◌, ◌%◌, ◌^◌, ◌≤◌, [], ◌∷◌, ◌++◌, append-nil, Some, length, length-take-le, take, ap, refl, subst, sym, arith}
use Rattle.std.specs.List.{flat_map}
use Rattle.seatmelon_pcapng.specs.Classics.{left_in, state_with}
use Rattle.std.specs.Io.KnownBytes.{prepend_known}
use Rattle.seatmelon_pcapng.specs.Memory.{bytes_held, bytes_of}
use Rattle.seatmelon_pcapng.specs.Readings.{next_of, packet_bytes, packet_in}
use Rattle.seatmelon_pcapng.specs.Readings.Next.{goes}
use Rattle.seatmelon_pcapng.specs.Sections.{interfaces_in, link_types_met, order_in}
use Rattle.seatmelon_pcapng.specs.declared.block.Turn.TheVariants.{Packet}
use Rattle.seatmelon_pcapng.specs.declared.coming.Coming.TheVariants.{Block}
use Rattle.seatmelon_pcapng.specs.declared.order.Order.TheVariants.{Little}
use Rattle.seatmelon_pcapng.proofs.Comings.{block-there, tells-same, told-known}
use Rattle.seatmelon_pcapng.proofs.LinkTypeLemmas.{first_of-none}
use Rattle.seatmelon_pcapng.proofs.Staying.{remarks-gone}
use Rattle.seatmelon_pcapng.proofs.Ways.{left-given, left-gone}
use Rattle.seatmelon_pcapng.proofs.classic.Classic.give_packet.Goals as goal

pub slice_bounds-write_packet-end : goal.slice_bounds-write_packet-end
slice_bounds-write_packet-end g c =
    let next = c.in-Some.next in
    let bytes = c.bytes-bytes.result.now in
    sym (length-take-le next.front.len bytes (block-there (Some Little) c.interfaces.result.now bytes next.front (Packet next.found) c.in-Some.ensures).1)

pub write_packet-size-requires : goal.write_packet-size-requires
write_packet-size-requires g c =
    let next = c.in-Some.next in
    let bytes = c.bytes-bytes.result.now in
    let there = block-there (Some Little) c.interfaces.result.now bytes next.front (Packet next.found) c.in-Some.ensures in
    let size : length (take next.front.len bytes) ≡ next.front.len = length-take-le next.front.len bytes there.1 in
    let within = c.in-Some.ensures.1 in
    (within.0, omega (arith, size, within.1), within.2)

pub pass-requires : goal.pass-requires
pass-requires g c =
    let next = c.in-Some.next in
    subst (λ l. next.front.len ≤ length l) c.bytes-bytes.ensures
    (block-there (Some Little) c.interfaces.result.now c.bytes-bytes.result.now next.front (Packet next.found) c.in-Some.ensures).1

pub returns-then-size-gt0-clause-left : goal.returns-then-size-gt0-clause-left
returns-then-size-gt0-clause-left g c =
    let old = c.args.self.now in
    let remaining = g.S.Source.remaining in
    let front = c.in-Some.next.front in
    let found = c.in-Some.next.found in
    let order = order_in old.section in
    let interfaces = interfaces_in old.section in
    let bytes = bytes_of old.blocks in
    let held = bytes_held old.held in
    let at = (old.at + front.len) % 2 ^ 64 in
    let tells = tells-same (Some Little) order c.interfaces.result.now interfaces c.bytes-bytes.result.now bytes (Block front (Packet found))
    c.requires.2 (sym c.interfaces.ensures) (sym c.bytes-bytes.ensures) c.in-Some.ensures in
    let next = told-known (λ rest. next_of (state_with old rest) ≡ goes front (Packet found)) bytes (remaining old.source) (tells.0 old.at) in
    let spells = flat_map packet_bytes (packet_in (take front.len bytes) found ∷ []) in
    let given = take c.write_packet-size.result c.write_packet-size.new.buf in
    let written : given ≡ spells =
    subst (λ l. given ≡ flat_map packet_bytes (packet_in (take front.len l) found ∷ [])) c.bytes-bytes.ensures (c.write_packet-size.ensures.written (omega arith)) in
    let gone = left-gone order interfaces old.at held bytes (remaining old.source) old.progress front (Packet found) c.requires.1 next
    (block-there order interfaces bytes front (Packet found) tells).1
    order interfaces at (held ++ spells) (bytes_of c.pass.new.self) refl refl refl refl c.pass.ensures in
    let all : held ++ spells ≡ given ++ held =
    ap (λ l. l ++ spells) c.requires.0 ∙ sym written ∙ sym (append-nil given) ∙ ap (λ l. given ++ l) (sym c.requires.0) in
    left-given order interfaces at (held ++ spells) held given all (left_in remaining old) (prepend_known (bytes_of c.pass.new.self) (remaining old.source)) old.progress gone

pub returns-then-size-gt0-clause-remarks : goal.returns-then-size-gt0-clause-remarks
returns-then-size-gt0-clause-remarks g c =
    let old = c.args.self.now in
    let remaining = g.S.Source.remaining in
    let front = c.in-Some.next.front in
    let found = c.in-Some.next.found in
    let order = order_in old.section in
    let interfaces = interfaces_in old.section in
    let bytes = bytes_of old.blocks in
    let tells = tells-same (Some Little) order c.interfaces.result.now interfaces c.bytes-bytes.result.now bytes (Block front (Packet found))
    c.requires.2 (sym c.interfaces.ensures) (sym c.bytes-bytes.ensures) c.in-Some.ensures in
    let next = told-known (λ rest. next_of (state_with old rest) ≡ goes front (Packet found)) bytes (remaining old.source) (tells.0 old.at) in
    remarks-gone (link_types_met old.section) order interfaces old.at bytes (remaining old.source) old.progress front (Packet found) c.requires.1 next
    (block-there order interfaces bytes front (Packet found) tells).1
    (link_types_met old.section) order interfaces ((old.at + front.len) % 2 ^ 64) (bytes_of c.pass.new.self) (first_of-none (link_types_met old.section)) refl refl refl c.pass.ensures
