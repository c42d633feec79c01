use Rattle.std.proofs.Common.{◌∙◌, sym}
use Rattle.seatmelon_pcapng.proofs.Formats.{converted-begins, known-kept, plain-begins}
use Rattle.seatmelon_pcapng.proofs.Passing.{IfSome-is}
use Rattle.seatmelon_pcapng.proofs.capture.Capture.open.Goals as goal

pub returns-then-not-is_pcapng-clause-noted : goal.returns-then-not-is_pcapng-clause-noted
returns-then-not-is_pcapng-clause-noted g c = IfSome-is _ (g.S.Source.remaining c.args.source) (λ file is none.
    let peeked = c.in_ok-peeked in
    plain-begins g.S.Source.remaining g.S.Source.notes peeked.peeked file (peeked.ensures.noted none) (rw is at peeked.ensures.left)
    (sym (rw is at peeked.ensures.told) ∙ sym c.is_pcapng.ensures ∙ c.if-not-is_pcapng.true))

pub returns-clause-noted : goal.returns-clause-noted
returns-clause-noted g c = IfSome-is _ (g.S.Source.remaining c.args.source) (λ file is none.
    let peeked = c.in_ok-peeked in
    let left = known-kept file _ (rw is at peeked.ensures.left) in
    converted-begins g.S.Source.remaining g.S.Source.notes c.in_ok-new.field-0 file ((rw left at c.in_ok-new.ensures.noted) (peeked.ensures.noted none))
    (sym (rw is at peeked.ensures.told) ∙ sym c.is_pcapng.ensures ∙ c.if-not-is_pcapng.false))
