use Rattle.std.proofs.Common.{◌≡◌, ◌∙◌, ◌+◌, ◌-◌, ◌≤◌, length, length-take-le, drop, min, arith}
use Rattle.seatmelon_pcapng.proofs.Looking.{given_first}
use Rattle.seatmelon_pcapng.proofs.peeked.Peeked.give.Goals as goal

pub returns-clause-given : goal.returns-clause-given
returns-clause-given g c =
    let old = c.args.self.now in
    let len = c.min-len.result in
    let is : len ≡ min (length c.args.buf.now) (old.end - old.start) = c.min-len.ensures in
    let room : len ≤ length c.args.buf.now = omega (arith, is) in
    let within : old.start + len ≤ old.end = omega (arith, is, old.ordered) in
    given_first old.front c.copy_from_slice.new.self (drop len c.args.buf.now) old.start len old.end within
    (c.copy_from_slice.ensures.len ∙ length-take-le len c.args.buf.now room) c.copy_from_slice.ensures.after
