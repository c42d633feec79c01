use Rattle.std.proofs.Common.{◌≡◌, ◌∙◌, [], ◌∷◌, ◌++◌, ap, slice_range}
use Rattle.std.specs.List.{flat_map}
use Rattle.seatmelon_pcapng.specs.Memory.{bytes_held}
use Rattle.seatmelon_pcapng.specs.Readings.{packet_bytes, packet_in}
use Rattle.seatmelon_pcapng.proofs.Ways.{OnOk-then, spelled-packet}
use Rattle.seatmelon_pcapng.proofs.classic.spell_packet.Goals as goal

pub returns-clause-held : goal.returns-clause-held
returns-clause-held c =
    let block = c.args.block.now in
    let found = c.args.found.now in
    let frame = slice_range block found.start found.end in
    let old = bytes_held c.args.held.now in
    let spells = ap (λ l. l ++ frame) c.front_of.ensures ∙ spelled-packet block found c.requires in
    OnOk-then c.put.result (bytes_held c.put.new.self ≡ old ++ (c.front_of.result ++ frame)) (bytes_held c.put.new.self ≡ old ++ flat_map packet_bytes (packet_in block found ∷ []))
    c.put.ensures.held (λ e. e ∙ ap (λ l. old ++ l) spells)
