use Rattle.std.proofs.Common.{◌≡◌, drop, take}
use Rattle.rasta_cert.specs.Certificate.{AreEntries, entries_text}
use Rattle.rasta_pcap.proofs.Sending.{Sent}
use Rattle.rasta_cert.proofs.writing.write_entries.Given as goal

-- the lines of the entries that are left are left, and no write failed
abbrev pub invariant-loop-entry : goal.invariant-loop-entry
invariant-loop-entry g l = record {
  sent : Sent (entries_text l.entries) (entries_text (drop l.entry-index l.entries)) (g.W.Sink.contents l.fn.writer) (g.W.Sink.contents l.writer);
  valid : AreEntries (take l.entry-index l.entries);
  steady : g.W.Sink.failure_count l.writer ≡ g.W.Sink.failure_count l.fn.writer;
}
