use Rattle.rasta_pcap.proofs.Noting.{PassesOn-then}
use Rattle.seatmelon_reading.specs.Passing.{IsPassed}
use Rattle.seatmelon_reading.proofs.Opened.{IfSome-on_ok}
use Rattle.seatmelon_reading.proofs.reading.pass_whole.Goals as goal

pub returns-clause-passed : goal.returns-clause-passed
returns-clause-passed g c =
    PassesOn-then g.S.Source.remaining g.S.Source.notes _ c.pass_capture.new.source c.drain.new.source c.pass_capture.ensures.passed c.drain.ensures.passed

pub returns-clause-read : goal.returns-clause-read
returns-clause-read g c =
    IfSome-on_ok (λ file. IsPassed file c.args.pass.now c.pass_capture.new.pass) (g.S.Source.remaining c.args.source.now) c.drain.result c.in_ok-pass_capture.ensures.read
