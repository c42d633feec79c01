use Rattle.std.proofs.Common.{arith, ap, inl, inr, ⊎_elim}
use Rattle.rasta_check.proofs.Prelude.{take_fault, Followed, value_of}
use Rattle.rasta_check.proofs.Script.RefusedEntries.{refused}
use Rattle.rasta_end.specs.Judged.{JudgedEnd}
use Rattle.rasta_check.proofs.Model.TakeRows.{accepted_after}
use Rattle.rasta_check.proofs.follower.Follower.take.Goals as goal

-- src/follower.rt
pub returns-in-Err-take-clause-err : goal.returns-in-Err-take-clause-err
returns-in-Err-take-clause-err g c =
    refused _ _ c.self.view_is _ (λ (f : Followed). take_fault f.params f.cursor.state f.cursor.state.clock) _ c.in-Ok.ensures _
    (⊎_elim (λ w. inl (w.0, w.1, c.placed.ensures.of_end w.0 _ w.2)) (λ w. inr (c.placed.ensures.memory w.2)) c.in-Err-take.ensures.err.1)

pub invariant_of-self-2 : goal.invariant_of-self-2
invariant_of-self-2 g c =
    let after = ap (λ (e : JudgedEnd). e.state.accepted) c.in_default.ensures.ok.1 in
    let most = accepted_after c.self.inside.end.params c.self.inside.end.state (value_of c.in-Ok.found.1).safety in
    (omega (arith, after, most, c.self.invariant.0), omega (arith, c.self.invariant.1))
