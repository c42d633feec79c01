use Rattle.std.proofs.Common.{refl}
use Rattle.rasta_check.proofs.Middle.SeenSteps.{told_by}
use Rattle.rasta_check.proofs.shown.Shown.contradiction.Goals as goal

pub returns : goal.returns
returns c p packets h = told_by p packets c.args.self.now h c.args.self.now.contradiction refl
