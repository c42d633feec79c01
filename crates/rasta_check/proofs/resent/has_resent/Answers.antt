use Rattle.std.proofs.Common.{filter_map, ap, sym, ◌∙◌}
use Rattle.std.proofs.lemmas.List.{drop_all}
use Rattle.std.proofs.lemmas.Option.{slice_get-get_or}
use Rattle.rasta_check.specs.Internals.ResentUnits.{resent_at}
use Rattle.rasta_check.proofs.Middle.ResentSteps.{passed_over}
use Rattle.rasta_check.proofs.resent.has_resent.Goals as goal

pub loop-sight-preserved : goal.loop-sight-preserved
loop-sight-preserved c =
    let l = c.loop-sight in
    passed_over c.args.sights.now l.sight-index _ (slice_get-get_or c.args.sights.now l.sight-index _ c.loop-sight-test.true) (sym c.if-is.ensures) ∙ l.invariant

pub returns : goal.returns
returns c h =
    let l = c.loop-sight in
    sym l.invariant ∙ ap (filter_map (resent_at c.args.sights.now)) (drop_all l.sight-index c.args.sights.now c.loop-sight-test.false)
