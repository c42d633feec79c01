use Rattle.std.proofs.Common.{◌∙◌, List, ℕ, ◌++◌, ap, option_map, refl}
use Rattle.seatmelon_pcapng.specs.Memory.{bytes_held, bytes_of}
use Rattle.seatmelon_pcapng.specs.Readings.{classic_of, header_bytes, reading_of}
use Rattle.seatmelon_pcapng.specs.Sections.{interfaces_in, link_types_met, order_in}
use Rattle.seatmelon_pcapng.proofs.Gives.{noted-begins}
use Rattle.seatmelon_pcapng.proofs.Passing.{IfSome-is}
use Rattle.seatmelon_pcapng.proofs.Staying.{remarks-begin}
use Rattle.seatmelon_pcapng.proofs.Ways.{left-begins}
use Rattle.seatmelon_pcapng.proofs.classic.Classic.new.Goals as goal

pub returns-clause-noted : goal.returns-clause-noted
returns-clause-noted g c = IfSome-is _ (g.S.Source.remaining c.args.source) (λ file is noted.
    let order = order_in c.new.result in
    let interfaces = interfaces_in c.new.result in
    let held = bytes_held c.put.new.self in
    let block = bytes_of c.make_room.new.self in
    let none = c.make_room.ensures.kept ∙ c.new-blocks.ensures in
    let known = g.S.Source.remaining c.args.source in
    let left = left-begins order interfaces 0 held block known c.new.ensures.order c.new.ensures.interfaces refl (c.in_ok-put.ensures.held ∙ ap (λ l. l ++ header_bytes) c.new-held.ensures) none
    ∙ ap (option_map (λ (f : List ℕ). classic_of (reading_of f))) is in
    noted-begins g.S.Source.remaining g.S.Source.notes _ file is noted left
    (remarks-begin (link_types_met c.new.result) order interfaces 0 block file known c.new.ensures.met c.new.ensures.order c.new.ensures.interfaces refl none is))
