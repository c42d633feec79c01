use Rattle.std.proofs.Common.{◌≡◌}
use Rattle.seatmelon_connections.proofs.kept_draft.write_channels.Given as goal

-- no write failed
abbrev pub invariant-loop-channel : goal.invariant-loop-channel
invariant-loop-channel g l = g.W.Sink.failure_count l.writer ≡ g.W.Sink.failure_count l.fn.writer
