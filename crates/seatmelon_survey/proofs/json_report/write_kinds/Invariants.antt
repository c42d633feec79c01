use Rattle.std.proofs.Common.{◌≡◌}
use denote.Text.{Utf8}
use denote.Shadow.{shadow}
use Rattle.seatmelon_survey.proofs.json_report.write_kinds.Given as goal

-- no write failed, and what stands before a type is text
abbrev pub invariant-loop-kind : goal.invariant-loop-kind
invariant-loop-kind g l = (g.W.Sink.failure_count l.writer ≡ g.W.Sink.failure_count l.fn.writer) × shadow (Utf8 l.before)
