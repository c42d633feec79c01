use Rattle.std.proofs.Common.{rules, ◌≡◌, ◌∷◌, sym, true, subst}
use Rattle.std.specs.List.{Contains}
use Rattle.trials_plain.specs.declared.world.Move.TheVariants.{Arrive}
use Rattle.trials_plain.specs.Moving.{Answers, JudgedStation}
use Rattle.trials_plain.proofs.Moving.{arrive_refused, arrive_made, kept_arrived, after_base}
use Rattle.trials_plain.proofs.world.PlainStation.arrives.Goals as goal

pub invariant_of-self : goal.invariant_of-self
invariant_of-self c =
    let k = c.self.invariant in
    let same : c.insert.new.self.items ≡ c.self.inside.arrived.items = search rules in
    record { params = k.params; side = k.side; base = k.base; small = k.small; clock = k.clock; arrived = (λ at there. k.arrived at (subst (λ xs. Contains xs at) same there)); accepted = k.accepted }

pub invariant_of-self-2 : goal.invariant_of-self-2
invariant_of-self-2 c =
    let k = c.self.invariant in
    let more : c.insert.new.self.items ≡ c.args.position ∷ c.self.inside.arrived.items = search rules in
    let low = after_base c.self.inside c.args.self.now c.args.peer.now.station.state.base c.args.position c.self.view_is k c.requires.base c.in-Some.ensures.0 in
    record { params = k.params; side = k.side; base = k.base; small = k.small; clock = k.clock; arrived = kept_arrived c.self.inside c.insert.new.self.items c.args.position k more low; accepted = k.accepted }

pub returns-clause-answer : goal.returns-clause-answer
returns-clause-answer c = λ xs.
    let s = c.self.inside in
    let more : c.insert.new.self.items ≡ c.args.position ∷ s.arrived.items = search rules in
    let found = c.in-Some.ensures.1 in
    subst (λ items. Answers c.args.self.now.params c.args.peer.now.station xs c.args.self.now.station (Arrive c.args.position) true
    (record { state = s.end.state; clock = s.clock; arrived = items; mark = s.mark; first_number = s.first_number }) xs) (sym more)
    (subst (λ (v : JudgedStation). Answers v.params c.args.peer.now.station xs v.station (Arrive c.args.position) true
    (record { state = s.end.state; clock = s.clock; arrived = c.args.position ∷ s.arrived.items; mark = s.mark; first_number = s.first_number }) xs) c.self.view_is
    (arrive_made s.params c.args.peer.now.station _ c.args.position c.in-Some.ensures.0 found.0 found.1 xs))

pub returns-in_default-clause-answer : goal.returns-in_default-clause-answer
returns-in_default-clause-answer c = arrive_refused c.args.self.now.params c.args.peer.now.station c.args.self.now.station c.args.position (search rules)
