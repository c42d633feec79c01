use Rattle.std.proofs.Common.{rules, ◌+◌, ◌∙◌, sym, ap}
use Rattle.rasta_udp.specs.Frame.{goes, fields_of, direction_of}
use Rattle.rasta_udp.proofs.Directions.{named, direction_from, sends_at, passed_at, all_gone}
use Rattle.rasta_udp.proofs.frame.direction.Goals as goal

pub loop-i-init : goal.loop-i-init
unfolding direction_of direction_from
loop-i-init c = search rules

pub returns-in-Some : goal.returns-in-Some
unfolding direction_of direction_from
returns-in-Some c =
    sym (sends_at (goes (fields_of c.args.frame.now)) (c.loop-i.i + 1) c.args.channels.now c.loop-i.i _ c.loop-i-test.true
    c.in-Some.side (sym c.in-Some.ensures)) ∙ ap named c.loop-i.invariant

pub loop-i-preserved : goal.loop-i-preserved
unfolding direction_of direction_from
loop-i-preserved c =
    sym (passed_at (goes (fields_of c.args.frame.now)) (c.loop-i.i + 1) c.args.channels.now c.loop-i.i _ c.loop-i-test.true
    (sym c.in_default.ensures)) ∙ c.loop-i.invariant

pub returns : goal.returns
returns c =
    sym (ap named (all_gone (goes (fields_of c.args.frame.now)) (c.loop-i.i + 1) c.args.channels.now c.loop-i.i (search rules)))
    ∙ ap named c.loop-i.invariant
