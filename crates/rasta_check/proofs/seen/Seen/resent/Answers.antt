use Rattle.std.proofs.lemmas.Result.{IfOk-weaker}
use Rattle.rasta_check.proofs.Middle.ShownLists.{resent_of_kept}
use Rattle.rasta_check.proofs.seen.Seen.resent.Goals as goal

pub returns : goal.returns
returns c =
    IfOk-weaker c.resent_units.result _ _
    (λ units h. resent_of_kept _ c.args.self.now _ c.args.peer.now c.deref.result.now c.deref-2.result.now units.items c.self.view_is c.peer.view_is c.deref.ensures.value c.deref-2.ensures.value h)
    c.resent_units.ensures
