use Rattle.std.proofs.Common.{◌≡◌}
use Rattle.seatmelon_text.proofs.text.put_parts.Given as goal

-- no write failed
abbrev pub invariant-loop-part : goal.invariant-loop-part
invariant-loop-part g l = g.W.Sink.failure_count l.writer ≡ g.W.Sink.failure_count l.fn.writer
