use Rattle.std.proofs.Common.{rules, true, subst}
use Rattle.trials_plain.specs.declared.world.Move.TheVariants.{Wait}
use Rattle.rasta_check.specs.Model.World.{Station}
use Rattle.trials_plain.specs.Moving.{Answers, JudgedStation}
use Rattle.trials_plain.proofs.Moving.{wait_refused, wait_made}
use Rattle.trials_plain.proofs.world.PlainStation.waits.Goals as goal

pub returns-then-clock-self-clause-answer : goal.returns-then-clock-self-clause-answer
returns-then-clock-self-clause-answer c = λ b. wait_refused c.args.self.now.params b c.args.self.now.station c.args.clock (search rules)

pub returns-clause-answer : goal.returns-clause-answer
returns-clause-answer c = λ b xs.
    let new : Station = record { state = c.self.inside.end.state; clock = c.args.clock; arrived = c.self.inside.arrived.items; mark = c.self.inside.mark; first_number = c.self.inside.first_number } in
    subst (λ (v : JudgedStation). Answers v.params b xs v.station (Wait c.args.clock) true new xs) c.self.view_is
    (wait_made c.self.inside.params b _ c.args.clock (search rules) xs)
