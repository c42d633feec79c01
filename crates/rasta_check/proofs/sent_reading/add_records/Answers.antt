use Rattle.std.proofs.Common.{◌+◌, ◌-◌, suc, arith}
use Rattle.rasta_check.proofs.Prelude.{reading, after_records}
use Rattle.rasta_check.proofs.sent_reading.add_records.Goals as goal
use Rattle.rasta_check.proofs.sent_reading.add_records.Goals.{else-loop-test, then-loop-test+in-Ok-false}

pub returns-in-Err : goal.returns-in-Err
returns-in-Err c = (let more = c.loop.invariant (suc (c.args.last - (c.loop.counter + 1))) (omega (arith, c.loop-test.true)) in grind arith)

pub loop-preserved : goal.loop-preserved
loop-preserved c left e = grind arith

pub returns : goal.returns
unfolding after_records reading
returns c =
    let last = c.loop.invariant 0 in
    let more = c.loop.invariant (suc (c.args.last - (c.loop.counter + 1))) in
    grind arith
