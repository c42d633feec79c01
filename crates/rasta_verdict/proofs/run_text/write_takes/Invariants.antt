use Rattle.std.proofs.Common.{◌≡◌, length}
use Rattle.rasta_pcap.proofs.Sending.{Sent}
use Rattle.rasta_verdict.specs.Told.{takes_text}
use Rattle.rasta_verdict.proofs.RunTexts.{IsAmongTakes}
use Rattle.rasta_verdict.proofs.run_text.write_takes.Given as goal

-- the takes of the level that are left in the rest of the script are left, and no write failed
abbrev pub invariant-loop-number : goal.invariant-loop-number
invariant-loop-number g l = record {
  sent : Sent (takes_text l.level l.side l.fn.script) (takes_text l.level l.side l.rest) (g.W.Sink.contents l.fn.writer) (g.W.Sink.contents l.writer);
  among : IsAmongTakes l.level l.fn.script l.rest;
  steady : g.W.Sink.failure_count l.writer ≡ g.W.Sink.failure_count l.fn.writer;
}

abbrev pub decreases-loop-number : goal.decreases-loop-number
decreases-loop-number g l = length l.rest
