use Rattle.std.proofs.Common.{◌∙◌}
use Rattle.std.proofs.lemmas.Option.{slice_get-get_or}
use Rattle.rasta_check.proofs.Middle.ResentSteps.{proof_none, proof_here, proof_later}
use Rattle.rasta_check.proofs.resent.first_proof.Goals as goal

pub loop-settlement-preserved : goal.loop-settlement-preserved
loop-settlement-preserved c =
    let l = c.loop-settlement in
    proof_later c.args.resent.now c.args.settlements.now l.settlement-index _ (slice_get-get_or c.args.settlements.now l.settlement-index _ c.loop-settlement-test.true) c.if-is_conveyed.ensures
    ∙ l.invariant

pub returns-then-is_conveyed : goal.returns-then-is_conveyed
returns-then-is_conveyed c =
    let l = c.loop-settlement in
    proof_here c.args.resent.now c.args.settlements.now l.settlement-index _ (slice_get-get_or c.args.settlements.now l.settlement-index _ c.loop-settlement-test.true) c.if-is_conveyed.ensures
    ∙ l.invariant

pub returns : goal.returns
returns c =
    let l = c.loop-settlement in
    proof_none c.args.resent.now c.args.settlements.now l.settlement-index c.loop-settlement-test.false ∙ l.invariant
