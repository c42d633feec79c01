use Rattle.std.proofs.Common.{◌≡◌}
use denote.Text.{Utf8}
use denote.Shadow.{shadow}
use Rattle.seatmelon_survey.proofs.cut_report.write_cut_pairs_json.Given as goal

-- no write failed, and what stands before a pair is text
abbrev pub invariant-loop-place : goal.invariant-loop-place
invariant-loop-place g l = (g.W.Sink.failure_count l.writer ≡ g.W.Sink.failure_count l.fn.writer) × shadow (Utf8 l.before)
