use Rattle.std.proofs.Common.{arith}
use Rattle.rasta_check.proofs.Verdict.CallAnswers.{err_match}
use Rattle.rasta_check.proofs.Script.FollowedScripts.{loop_on, loop_off, loop_end}
use Rattle.rasta_check.proofs.follower.follow.Goals as goal

-- src/follower.rt
pub returns-in_err-next : goal.returns-in_err-next
returns-in_err-next g c =
    err_match _ _ _ _ c.from_residual-in_err-next.ensures (loop_off _ _ _ _ _ _ c.args.script.now _ _ _ c.loop-entry-test.true c.loop-entry.invariant.params c.loop-entry.invariant.side c.loop-entry.invariant.rest c.in_err-next.ensures.err)

pub loop-entry-preserved : goal.loop-entry-preserved
loop-entry-preserved g c = grind (arith, loop_on)

pub returns : goal.returns
returns g c = loop_end _ _ _ _ _ _ _ _ _ c.loop-entry-test.false c.loop-entry.invariant.params c.loop-entry.invariant.side c.loop-entry.invariant.rest c.finish.ensures
