use Rattle.std.proofs.Common.{[], ◌∷◌, ◌++◌, subst, sym}
use Rattle.std.specs.List.{AllZip}
use Rattle.seatmelon_audit.specs.Audits.{IsConnectionOf}
use Rattle.seatmelon_audit.proofs.Answering.{zip_push}
use Rattle.seatmelon_audit.proofs.audits.connections_of.Goals as goal

pub loop-line-preserved : goal.loop-line-preserved
loop-line-preserved c =
    subst (AllZip IsConnectionOf (c.loop-line.yielded ++ c.in-Some.line ∷ [])) (sym c.in_ok-push.ensures.items)
    (zip_push IsConnectionOf c.loop-line.yielded c.loop-line.connections.items c.in-Some.line c.connection_of.result c.loop-line.invariant c.connection_of.ensures)
