use Rattle.std.proofs.Common.{arith}
use Rattle.seatmelon_audit.proofs.Ending.{all_ended, none_ended, one_ended}
use Rattle.seatmelon_audit.proofs.lines.end_all.Goals as goal

pub loop-place-init : goal.loop-place-init
loop-place-init c = none_ended c.args.lines.now.items c.args.fault

pub loop-place-preserved : goal.loop-place-preserved
loop-place-preserved c =
    one_ended c.loop-place.place c.args.lines.now.items c.loop-place.lines.items c.end_at.new.lines.items c.args.fault c.loop-place.invariant c.end_at.ensures

pub returns-clause-lines : goal.returns-clause-lines
returns-clause-lines c =
    all_ended c.loop-place.place c.args.lines.now.items c.loop-place.lines.items c.args.fault (omega (arith, c.loop-place-test.false, c.len-place-end.ensures)) c.loop-place.invariant

pub returns-clause-kept : goal.returns-clause-kept
returns-clause-kept c = c.loop-place.invariant.params
