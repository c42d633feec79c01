use Rattle.std.proofs.Common.{◌≡◌}
use Rattle.seatmelon_survey.proofs.json_report.write_channels.Given as goal

-- no write failed
abbrev pub invariant-loop-place : goal.invariant-loop-place
invariant-loop-place g l = g.W.Sink.failure_count l.writer ≡ g.W.Sink.failure_count l.fn.writer
