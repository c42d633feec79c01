use Rattle.std.proofs.Common.{◌≡◌, length}
use Rattle.seatmelon_text.proofs.json.write_content.Given as goal

abbrev pub decreases-loop-rest : goal.decreases-loop-rest
decreases-loop-rest g l = length l.rest

-- no write failed
abbrev pub invariant-loop-rest : goal.invariant-loop-rest
invariant-loop-rest g l = g.W.Sink.failure_count l.writer ≡ g.W.Sink.failure_count l.fn.writer
