use Rattle.std.proofs.Common.{rules}
use Rattle.std.specs.List.{Contains}
use Rattle.trials_plain.proofs.Moving.{takeable_there, arrived_after}
use Rattle.trials_plain.proofs.world.PlainStation.takeable.Goals as goal

pub returns-in-None : goal.returns-in-None
returns-in-None c =
    let there : Contains c.args.self.now.station.arrived c.args.position = search rules in
    takeable_there c.args.self.now.params c.args.peer.now.station c.args.self.now.station c.args.position c.made_at.result c.requires.base there (search rules)
    (arrived_after c.self.inside c.args.self.now c.self.view_is c.self.invariant c.args.position there)
    (search rules) c.made_at.ensures
