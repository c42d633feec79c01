use Rattle.rasta_pcap.specs.Noting.{PassesOn}
use Rattle.seatmelon_reading.proofs.reading.drain.Given as goal

-- what was read so far is noted
abbrev pub invariant-loop : goal.invariant-loop
invariant-loop g l = PassesOn g.S.Source.remaining g.S.Source.notes l.fn.source l.source
