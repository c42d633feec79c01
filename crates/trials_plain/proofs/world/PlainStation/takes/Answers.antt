use Rattle.std.proofs.Common.{rules, arith, ◌≤◌, ◌+◌, ap}
use Rattle.rasta_pdu.specs.Pdu.{value_of}
use Rattle.trials_plain.specs.Moving.{JudgedStation}
use Rattle.trials_plain.proofs.Moving.{take_refused, took, kept_take}
use Rattle.trials_plain.proofs.world.PlainStation.takes.Goals as goal

pub returns-in_default-clause-answer : goal.returns-in_default-clause-answer
returns-in_default-clause-answer c = take_refused c.args.self.now.params c.args.peer.now.station c.args.self.now.station c.args.position (search rules)

pub invariant_of-self-2 : goal.invariant_of-self-2
invariant_of-self-2 c =
    let taken = ap (λ (v : JudgedStation). v.station.mark) c.self.view_is in
    let above : c.self.inside.mark ≤ c.args.position = omega (arith, taken, c.in-Some.ensures.1) in
    kept_take c.self.inside c.take.new.self (value_of c.in-Some.pdu).safety c.args.position (c.from.result + 1) c.self.invariant c.in_default-take.ensures.ok.1 (omega (arith, c.from.ensures)) above

pub returns-clause-answer : goal.returns-clause-answer
returns-clause-answer c =
    took c.self.inside c.take.new.self (value_of c.in-Some.pdu).safety c.args.position (c.from.result + 1) c.self.invariant c.in_default-take.ensures.ok.1 (omega (arith, c.from.ensures))
    c.args.self.now c.args.peer.now.station c.self.view_is c.in-Some.ensures
