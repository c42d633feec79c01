use Rattle.std.proofs.Common.{◌≡◌}
use Rattle.seatmelon_text.proofs.json.write_sentence.Given as goal

-- no write failed
abbrev pub invariant-loop-line : goal.invariant-loop-line
invariant-loop-line g l = g.W.Sink.failure_count l.writer ≡ g.W.Sink.failure_count l.fn.writer
