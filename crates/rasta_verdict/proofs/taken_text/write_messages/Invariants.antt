use Rattle.std.proofs.Common.{◌≡◌, drop, map}
use Rattle.rasta_pcap.proofs.Sending.{Sent}
use Rattle.rasta_check.specs.Verdict.Listed.{listed_of}
use Rattle.rasta_verdict.specs.Verdict.{taken_lines}
use Rattle.rasta_verdict.proofs.taken_text.write_messages.Given as goal

-- the lines of the messages that are left are left, and no write failed
abbrev pub invariant-loop-message : goal.invariant-loop-message
invariant-loop-message g l = record {
  sent : Sent (taken_lines (map listed_of l.taken)) (taken_lines (map listed_of (drop l.message-index l.taken))) (g.W.Sink.contents l.fn.writer) (g.W.Sink.contents l.writer);
  steady : g.W.Sink.failure_count l.writer ≡ g.W.Sink.failure_count l.fn.writer;
}
