use Rattle.std.proofs.Common.{◌∙◌, sym}
use Rattle.rasta_check.specs.Internals.ResentUnits.{resent_at}
use Rattle.rasta_check.proofs.Middle.Picked.{picked_end}
use Rattle.rasta_check.proofs.resent.resent_among.Goals as goal

pub returns : goal.returns
returns c r =
    let l = c.loop-sight in
    let sights = c.args.conveyance.now.sights.now in
    sym (picked_end (resent_at sights) sights l.sight-index l.found.items c.loop-sight-test.false) ∙ l.invariant r
