use Rattle.rasta_pcap.proofs.Noting.{PassesOn-then}
use Rattle.seatmelon_reading.proofs.reading.drain.Goals as goal

pub loop-preserved : goal.loop-preserved
loop-preserved g c = PassesOn-then g.S.Source.remaining g.S.Source.notes _ c.loop.source c.read.new.self c.loop.invariant (_, c.in-Ok.ensures.bytes.0, c.in-Ok.ensures.noted)
