use Rattle.std.proofs.Common.{Option, subst}
use Rattle.rasta_build.specs.Stopping.{IsMet}
use Rattle.rasta_build.specs.declared.obstacles.Obstacle.{Obstacle}
use Rattle.seatmelon_account.proofs.Told.{rule_told}
use Rattle.seatmelon_account.proofs.rules.rule_met.Goals as goal

pub returns-in-Some : goal.returns-in-Some
returns-in-Some c =
    let k = c.args.store.now in
    let meets = subst (λ (o : Option Obstacle). IsMet k.params k.client k.server o) c.in-Some.is c.requires.met in
    rule_told k c.in-Some.met c.broken_rule.result c.requires.crossed meets c.broken_rule.ensures.broken c.broken_rule.ensures.none
