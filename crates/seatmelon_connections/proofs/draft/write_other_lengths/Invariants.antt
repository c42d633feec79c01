use Rattle.std.proofs.Common.{◌≡◌}
use Rattle.seatmelon_connections.proofs.draft.write_other_lengths.Given as goal

-- no write failed
abbrev pub invariant-loop-other : goal.invariant-loop-other
invariant-loop-other g l = g.W.Sink.failure_count l.writer ≡ g.W.Sink.failure_count l.fn.writer
