use Rattle.std.proofs.Common.{◌≡◌, ◌++◌, ℕ, List, [], length}
use Rattle.std.specs.Io.KnownBytes.{Appends}
use Rattle.rasta_pcap.proofs.counted.write_all.Given as goal

-- what went out so far stands before the rest, with no failure, and nothing went out of no bytes
abbrev pub invariant-loop-rest : goal.invariant-loop-rest
invariant-loop-rest g l = (g.W.Sink.failure_count l.writer ≡ g.W.Sink.failure_count l.fn.writer)
    × ((front : List ℕ) × Appends (g.W.Sink.contents l.fn.writer) (g.W.Sink.contents l.writer) front × (l.bytes ≡ front ++ l.rest))
    × (l.bytes ≡ [] → l.writer ≡ l.fn.writer)

abbrev pub decreases-loop-rest : goal.decreases-loop-rest
decreases-loop-rest g l = length l.rest
