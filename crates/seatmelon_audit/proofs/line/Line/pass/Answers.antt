use Rattle.std.proofs.Common.{◌≡◌}
use Rattle.seatmelon_audit.specs.declared.line.Standing.TheVariants.{Reading}
use Rattle.seatmelon_audit.proofs.Standings.{passes_judged, passes_shown, short_stands}
use Rattle.seatmelon_audit.proofs.line.Line.pass.Goals as goal

pub returns-in-Reading-clause-stands : goal.returns-in-Reading-clause-stands
returns-in-Reading-clause-stands c =
    passes_judged c.args.self.now c.judge.new.self (c.args.record.now.number, c.args.record.now.bytes.now) c.args.time c.in-Reading.is c.requires.inside c.judge.ensures.judged
    c.judge.ensures.shown c.judge.ensures.kept.0

pub returns-in-Refused-clause-stands : goal.returns-in-Refused-clause-stands
returns-in-Refused-clause-stands c =
    let kept = c.show.ensures.kept in
    passes_shown c.args.self.now c.show.new.self (c.args.record.now.number, c.args.record.now.bytes.now) c.args.time
    (λ (reading : c.args.self.now.standing ≡ Reading). let is = c.in-Refused.is in cc) c.requires.inside c.show.ensures.standing
    (record { params = kept.0; builder = kept.1; shown = c.show.ensures.shown })

pub returns-in-OutOfMemory-clause-stands : goal.returns-in-OutOfMemory-clause-stands
returns-in-OutOfMemory-clause-stands c records q is next timed h = short_stands _ c.args.self.now c.in-OutOfMemory.is
