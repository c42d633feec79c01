use Rattle.std.proofs.Common.{◌≡◌}
use Rattle.seatmelon_connections.proofs.quiet_draft.write_quiet_points.Given as goal

-- no write failed
abbrev pub invariant-loop-candidate : goal.invariant-loop-candidate
invariant-loop-candidate g l = g.W.Sink.failure_count l.writer ≡ g.W.Sink.failure_count l.fn.writer
