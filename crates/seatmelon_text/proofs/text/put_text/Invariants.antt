use Rattle.std.proofs.Common.{◌≡◌}
use Rattle.seatmelon_text.proofs.text.put_text.Given as goal

-- no write failed
abbrev pub invariant-loop-byte : goal.invariant-loop-byte
invariant-loop-byte g l = g.W.Sink.failure_count l.writer ≡ g.W.Sink.failure_count l.fn.writer
