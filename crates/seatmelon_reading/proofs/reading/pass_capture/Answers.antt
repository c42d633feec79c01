use Rattle.seatmelon_reading.proofs.Seen.{capture_passed}
use Rattle.seatmelon_reading.proofs.reading.pass_capture.Goals as goal

pub returns-clause-read : goal.returns-clause-read
returns-clause-read g c =
    capture_passed (g.S.Source.remaining c.args.source.now) c.walk.result c.args.pass.now c.walk.new.visitor c.walk.ensures.same c.walk.ensures.seen
