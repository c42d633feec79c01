use Rattle.std.proofs.Common.{◌≡◌}
use Rattle.seatmelon_survey.proofs.report.write_kinds.Given as goal

-- no write failed
abbrev pub invariant-loop-kind : goal.invariant-loop-kind
invariant-loop-kind g l = g.W.Sink.failure_count l.writer ≡ g.W.Sink.failure_count l.fn.writer
