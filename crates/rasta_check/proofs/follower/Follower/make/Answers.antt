use Rattle.std.proofs.Common.{arith, inl, inr, ⊎_elim}
use Rattle.rasta_check.proofs.Prelude.{value_of, make_fault, Followed}
use Rattle.rasta_check.proofs.Script.RefusedEntries.{refused, led}
use Rattle.rasta_check.proofs.follower.Follower.make.Goals as goal

-- src/follower.rt
pub returns-in-Err-make-clause-err : goal.returns-in-Err-make-clause-err
returns-in-Err-make-clause-err g c =
    refused _ _ c.self.view_is _ (λ (f : Followed). make_fault f.params f.cursor.state (value_of c.in-Ok.pdu).safety c.args.clock c.args.why) _ (c.in-Ok.ensures c.args.clock c.args.why) _
    (⊎_elim (λ w. inl (w.0, w.1, c.placed.ensures.of_end w.0 _ w.2)) (λ w. inr (c.placed.ensures.memory w.1)) c.in-Err-make.ensures.err.1)

pub returns-clause-ok : goal.returns-clause-ok
returns-clause-ok g c = grind (arith, led)
