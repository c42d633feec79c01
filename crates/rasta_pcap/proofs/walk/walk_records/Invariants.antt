use Rattle.std.proofs.Common.{◌≡◌}
use Rattle.rasta_pcap.specs.Noting.{PassesOn}
use Rattle.rasta_pcap.specs.Stream.{count_in, progress_of}
use Rattle.rasta_pcap.specs.Captured.{Walk}
use Rattle.rasta_pcap.specs.Walk.{GoesOn}
use Rattle.rasta_pcap.specs.declared.stream.Progress.TheVariants.{Reading}
use Rattle.rasta_pcap.proofs.walk.walk_records.Given as goal

-- the reading goes on, as many records were read as were counted, and what was on the way still is
abbrev pub invariant-loop : goal.invariant-loop
invariant-loop g l = record {
  reading : progress_of l.records ≡ Reading;
  counted : count_in l.records ≡ l.counter;
  same : g.V.Visitor.same l.fn.visitor l.visitor;
  passed : PassesOn g.S.Source.remaining g.S.Source.notes l.fn.source l.source;
  on_way : (w : Walk) → GoesOn g.V.Visitor.seen w l.most l.fn.records (g.S.Source.remaining l.fn.source) l.fn.visitor
      → GoesOn g.V.Visitor.seen w l.most l.records (g.S.Source.remaining l.source) l.visitor;
}
