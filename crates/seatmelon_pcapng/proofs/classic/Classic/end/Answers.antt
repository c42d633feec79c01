use Rattle.std.proofs.Common.{◌<◌, ◌∙◌, length, subst, sym}
use Rattle.seatmelon_pcapng.specs.Memory.{bytes_held, bytes_of}
use Rattle.std.specs.Io.KnownBytes.{prepend_known}
use Rattle.seatmelon_pcapng.specs.Sections.{interfaces_in, link_types_met, order_in}
use Rattle.seatmelon_pcapng.proofs.Comings.{cut-known}
use Rattle.seatmelon_pcapng.proofs.Staying.{remarks-none}
use Rattle.seatmelon_pcapng.proofs.Ways.{empty_so, left-done, no_more, some_so}
use Rattle.seatmelon_pcapng.proofs.classic.Classic.end.Goals as goal

pub refuse-requires-clause-next : goal.refuse-requires-clause-next
refuse-requires-clause-next g c =
    let old = c.args.self.now in
    let some = subst (λ l. 0 < length l) c.bytes.ensures (some_so c.bytes.result.now (sym c.is_empty.ensures ∙ c.if-is_empty.false)) in
    cut-known (order_in old.section) (interfaces_in old.section) old.at (bytes_of old.blocks) (g.S.Source.remaining old.source) c.requires.cut some c.requires.at_end

pub returns-then-is_empty-clause-left : goal.returns-then-is_empty-clause-left
returns-then-is_empty-clause-left g c =
    let old = c.args.self.now in
    let source = g.S.Source.remaining old.source in
    let nothing = sym c.bytes.ensures ∙ empty_so c.bytes.result.now (sym c.is_empty.ensures ∙ c.if-is_empty.true) in
    left-done (order_in old.section) (interfaces_in old.section) old.at (bytes_held old.held) c.requires.none (prepend_known (bytes_of old.blocks) source) old.progress
    (bytes_held old.held) c.requires.reading (no_more (bytes_of old.blocks) source nothing c.requires.at_end) c.requires.none

pub returns-then-is_empty-clause-remarks : goal.returns-then-is_empty-clause-remarks
returns-then-is_empty-clause-remarks g c =
    let old = c.args.self.now in
    let source = g.S.Source.remaining old.source in
    let nothing = sym c.bytes.ensures ∙ empty_so c.bytes.result.now (sym c.is_empty.ensures ∙ c.if-is_empty.true) in
    remarks-none (link_types_met old.section) (order_in old.section) (interfaces_in old.section) old.at (prepend_known (bytes_of old.blocks) source) old.progress
    c.requires.reading (no_more (bytes_of old.blocks) source nothing c.requires.at_end)
