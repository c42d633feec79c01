use Rattle.std.proofs.Common.{rules, arith, ap, sym, ◌≡◌, ◌∙◌, ℕ, List, ◌-◌, ◌<◌, min, length}
use Rattle.seatmelon_capture.proofs.Fronts.{front_grows}
use Rattle.seatmelon_capture.proofs.keeping.Keeping.keep.Goals as goal

pub returns-clause-kept : goal.returns-clause-kept
returns-clause-kept g c passed is =
    let front = c.args.self.now.kept.items in
    let size : c.len-room.result ≡ length front = c.len-room.ensures.value in
    let room : 0 < 24 - length front = omega (arith, size, c.if-room-eq0.false) in
    let count : c.min-count.result ≡ min (length c.args.bytes.now) (24 - length front) = c.min-count.ensures ∙ ap (λ n. min (length c.args.bytes.now) (24 - n)) size in
    c.in-Ok.ensures.ok ∙ front_grows 24 c.min-count.result passed c.args.bytes.now front is room count
