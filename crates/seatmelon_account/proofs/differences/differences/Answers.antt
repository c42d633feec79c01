use Rattle.std.proofs.Common.{◌∙◌, ◌<◌, ◌≤◌, length, min, take, ap, arith}
use Rattle.seatmelon_account.proofs.Differing.{differing_all, told_on}
use Rattle.seatmelon_account.proofs.differences.differences.Goals as goal

pub loop-at-preserved : goal.loop-at-preserved
loop-at-preserved c =
    let before = c.loop-at-test.true in
    let end = c.min-at-end.ensures in
    let of_datagram : c.loop-at.at < length c.args.datagram.now = omega (arith, before, end) in
    let of_first : c.loop-at.at < length c.args.first.now = omega (arith, before, end) in
    told_on c.loop-at.at c.args.datagram.now c.args.first.now _ of_datagram of_first (c.note.ensures _ c.loop-at.invariant)

pub returns : goal.returns
returns c =
    let past = c.loop-at-test.false in
    let end = c.min-at-end.ensures in
    let all : min (length c.args.datagram.now) (length c.args.first.now) ≤ c.loop-at.at = omega (arith, past, end) in
    c.loop-at.invariant ∙ ap (take 16) (differing_all c.loop-at.at 0 c.args.datagram.now c.args.first.now all)
