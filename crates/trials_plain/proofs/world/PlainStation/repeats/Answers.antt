use Rattle.std.proofs.Common.{rules, ◌≡◌, ◌∙◌, List, ◌++◌, ◌∷◌, [], map, slice_get, sym, ap}
use Rattle.rasta_udp.specs.declared.channel.Datagram.{Datagram}
use Rattle.rasta_udp.specs.Frame.{packet_of}
use Rattle.rasta_check.specs.Capture.SentLists.{IsRecorded}
use Rattle.trials_plain.proofs.Moving.{repeat_refused, repeated}
use Rattle.trials_plain.proofs.world.PlainStation.repeats.Goals as goal

pub returns-in_default-clause-answer : goal.returns-in_default-clause-answer
returns-in_default-clause-answer c = λ b.
    repeat_refused c.args.self.now.params b c.args.self.now.station (map packet_of c.args.crossed.now.items) c.args.place c.args.channel
    (λ old get side rec. c.in_default.ensures old (ap (λ (ds : List Datagram). slice_get (map packet_of ds) c.args.place) c.as_slice.ensures.value ∙ get) side)

pub returns-then-not-has_channel-clause-answer : goal.returns-then-not-has_channel-clause-answer
returns-then-not-has_channel-clause-answer c = λ b.
    let none : IsRecorded c.args.self.now.params c.args.channel → ⊥ = search rules in
    repeat_refused c.args.self.now.params b c.args.self.now.station (map packet_of c.args.crossed.now.items) c.args.place c.args.channel (λ old get side rec. none rec)

pub returns-clause-answer : goal.returns-clause-answer
returns-clause-answer c = λ b.
    let old = c.in-Some.old in
    let pushed : c.push_reserved.new.self.items ≡ c.args.crossed.now.items ++ record { channel = c.args.channel; side = old.side; payload = old.payload } ∷ [] = search rules in
    repeated c.args.self.now.params b c.args.self.now.station c.args.crossed.now.items c.push_reserved.new.self.items c.args.place c.args.channel old
    (ap (λ (ds : List Datagram). slice_get (map packet_of ds) c.args.place) (sym c.as_slice.ensures.value) ∙ c.in-Some.ensures.0) c.in-Some.ensures.1 (search rules) pushed
