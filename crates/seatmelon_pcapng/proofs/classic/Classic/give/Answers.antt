use Rattle.std.proofs.Common.{take, []}
use Rattle.std.proofs.KnownBytes.{Consumes-kept, Consumes-nil}
use Rattle.seatmelon_pcapng.specs.Classics.{left_in, rest_in}
use Rattle.seatmelon_pcapng.specs.Memory.{bytes_held}
use Rattle.seatmelon_pcapng.specs.Sections.{interfaces_in, order_in}
use Rattle.seatmelon_pcapng.proofs.Gives.{noted-more}
use Rattle.seatmelon_pcapng.proofs.Ways.{left-given}
use Rattle.seatmelon_pcapng.proofs.classic.Classic.give.Goals as goal

pub returns-in-Ok-clause-noted : goal.returns-in-Ok-clause-noted
returns-in-Ok-clause-noted g c =
    let ready = c.prepare.new.self in
    let remaining = g.S.Source.remaining in
    let given = left-given (order_in ready.section) (interfaces_in ready.section) ready.at (bytes_held ready.held) (bytes_held c.give.new.self)
    (take c.give.result c.give.new.buf) c.give.ensures.given (left_in remaining c.args.self.now) (rest_in remaining ready) ready.progress c.prepare.ensures.left in
    noted-more remaining g.S.Source.notes c.args.self.now _ (take c.give.result c.give.new.buf) c.prepare.ensures.passed given c.prepare.ensures.remarks

pub returns-in-Err-clause-noted : goal.returns-in-Err-clause-noted
returns-in-Err-clause-noted g c =
    let remaining = g.S.Source.remaining in
    let old = left_in remaining c.args.self.now in
    noted-more remaining g.S.Source.notes c.args.self.now _ [] c.prepare.ensures.passed
    (Consumes-kept old old (left_in remaining c.prepare.new.self) [] (Consumes-nil old) c.prepare.ensures.left) c.prepare.ensures.remarks
