use Rattle.std.proofs.Common.{◌∙◌}
use Rattle.rasta_check.proofs.Middle.SeenSteps.{counted_after, counted_known}
use Rattle.rasta_check.proofs.shown.Shown.add_pdu.Goals as goal
use Rattle.rasta_check.proofs.shown.Shown.add_pdu.Goals.{then-is_some, else-is_some+in_ok-held}

pub returns-clause-ok : goal.returns-clause-ok
returns-clause-ok c k spelled p packets h =
    elim c.if-is_some.branch [
      | then-is_some w ↦ counted_known p packets k c.args.self.now h c.if-is_some.self c.count.new.self c.if-is_some.held
          (let a = c.is_some.ensures in let b = w.if-is_some.true in cc) w.self-is (w.held-is ∙ w.if-is_some.true) c.count.ensures
      | else-is_some+in_ok-held w ↦ counted_after p packets k c.args.self.now h c.if-is_some.self _ c.count.new.self c.if-is_some.held _
          (let a = c.is_some.ensures in let b = w.if-is_some.false in cc) (w.in_ok-held.ensures.ok k spelled) w.self-is w.held-is c.count.ensures
    ]
