use Rattle.std.proofs.Common.{◌≡◌, ◌+◌, ◌-◌, length}
use Rattle.rasta_pcap.proofs.Sending.{Sent}
use Rattle.rasta_verdict.specs.Passed.{scripts_of}
use Rattle.rasta_verdict.specs.Told.{IsOrderedFrom, told_levels}
use Rattle.rasta_verdict.proofs.run_text.write_run.Given as goal

-- the levels that are left are told by what is left of the scripts, and no write failed
abbrev pub invariant-loop-level : goal.invariant-loop-level
invariant-loop-level g l = record {
  sent : Sent (told_levels l.store.packets l.certificate 0 (length l.store.packets + 1)) (told_levels l.store.packets (scripts_of l.rests) l.level (l.level-end - l.level))
      (g.W.Sink.contents l.fn.writer) (g.W.Sink.contents l.writer);
  client : IsOrderedFrom l.level l.rests.client.now;
  server : IsOrderedFrom l.level l.rests.server.now;
  steady : g.W.Sink.failure_count l.writer ≡ g.W.Sink.failure_count l.fn.writer;
  end : l.level-end ≡ length l.store.packets + 1;
}
