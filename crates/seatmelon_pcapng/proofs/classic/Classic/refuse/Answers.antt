use Rattle.std.proofs.Common.{◌≡◌, ◌∙◌, [], ◌∷◌, ◌++◌, ap, sym}
use Rattle.std.specs.Io.KnownBytes.{prepend_known}
use Rattle.seatmelon_pcapng.specs.Memory.{bytes_held, bytes_of}
use Rattle.seatmelon_pcapng.specs.Sections.{interfaces_in, link_types_met, order_in}
use Rattle.seatmelon_pcapng.proofs.Staying.{remarks-met}
use Rattle.seatmelon_pcapng.proofs.Ways.{left-refused, not_err_so}
use Rattle.seatmelon_pcapng.proofs.classic.Classic.refuse.Goals as goal

pub returns-clause-left : goal.returns-clause-left
returns-clause-left g c =
    let old = c.args.self.now in
    let mark : bytes_held c.put.new.self ≡ 0 ∷ [] =
    not_err_so c.put.result (bytes_held c.put.new.self ≡ bytes_held old.held ++ (0 ∷ [])) c.put.ensures.held (sym c.is_err.ensures.value ∙ c.if-is_err.false)
    ∙ ap (λ l. l ++ (0 ∷ [])) c.requires.none in
    left-refused (order_in old.section) (interfaces_in old.section) old.at (bytes_held old.held) c.requires.none
    (prepend_known (bytes_of old.blocks) (g.S.Source.remaining old.source)) old.progress c.args.reason (bytes_held c.put.new.self) c.requires.reading c.requires.next mark

pub returns-clause-remarks : goal.returns-clause-remarks
returns-clause-remarks g c =
    let old = c.args.self.now in
    let known = prepend_known (bytes_of old.blocks) (g.S.Source.remaining old.source) in
    remarks-met (link_types_met old.section) (order_in old.section) (interfaces_in old.section) old.at known old.progress c.args.reason
    c.requires.reading c.requires.next
