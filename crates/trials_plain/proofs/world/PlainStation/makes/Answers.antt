use Rattle.std.proofs.Common.{rules, ◌≡◌, ◌++◌, ◌∷◌, [], map, true}
use Rattle.rasta_udp.specs.Frame.{packet_of}
use Rattle.std.specs.Option.{is_some}
use Rattle.rasta_check.specs.Capture.SentLists.{IsRecorded}
use Rattle.trials_plain.proofs.Moving.{make_refused, kept_make, made, not_made}
use Rattle.rasta_pdu.specs.Pdu.{value_of}
use Rattle.trials_plain.proofs.world.PlainStation.makes.Goals as goal

pub returns-in_default-clause-answer : goal.returns-in_default-clause-answer
returns-in_default-clause-answer c = λ b.
    make_refused c.args.self.now.params b c.args.self.now.station (map packet_of c.args.crossed.now.items) c.args.channel c.args.payload c.args.why
    (λ r sp number rec calm. c.in_default.ensures r sp number)

pub returns-then-not-has_channel-clause-answer : goal.returns-then-not-has_channel-clause-answer
returns-then-not-has_channel-clause-answer c = λ b.
    let none : IsRecorded c.args.self.now.params c.args.channel → ⊥ = search rules in
    make_refused c.args.self.now.params b c.args.self.now.station (map packet_of c.args.crossed.now.items) c.args.channel c.args.payload c.args.why
    (λ r sp number rec calm. none rec)

pub invariant_of-self-2 : goal.invariant_of-self-2
invariant_of-self-2 c =
    kept_make c.self.inside c.make.new.self c.args.why (value_of c.in-Some.pdu) c.self.invariant c.in_default-make.ensures.ok.1

pub returns-clause-answer : goal.returns-clause-answer
returns-clause-answer c = λ b.
    let pushed : c.push_reserved.new.self.items ≡ c.args.crossed.now.items ++ record { channel = c.args.channel; side = c.self.inside.side; payload = c.args.payload } ∷ [] = search rules in
    made c.self.inside c.args.self.now b c.make.new.self c.args.channel c.args.payload c.args.why (value_of c.in-Some.pdu) c.self.view_is c.self.invariant
    c.args.crossed.now.items c.push_reserved.new.self.items c.in_default-make.ensures.ok.0 c.in_default-make.ensures.ok.1 c.in-Some.ensures.0 c.in-Some.ensures.1 (search rules) pushed

pub returns-in-Err-clause-answer : goal.returns-in-Err-clause-answer
returns-in-Err-clause-answer c = λ b.
    let same : c.try_reserve.new.self.items ≡ c.args.crossed.now.items = search rules in
    let some : is_some c.in-Err.fault.end ≡ true = search rules in
    let kept : c.make.new.self ≡ c.self.inside.end = c.in-Err.ensures.err.0 in
    not_made c.self.inside c.args.self.now b c.make.new.self c.args.channel c.args.payload c.args.why (value_of c.in-Some.pdu) c.self.view_is c.self.invariant
    c.args.crossed.now.items c.try_reserve.new.self.items c.in-Err.fault same kept c.in-Err.ensures.err.1 some c.in-Some.ensures.2
