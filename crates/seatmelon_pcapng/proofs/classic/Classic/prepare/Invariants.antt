use Rattle.std.proofs.Common.{◌≡◌}
use Rattle.std.specs.Io.KnownBytes.{Keeps}
use Rattle.rasta_pcap.specs.Noting.{PassesOn}
use Rattle.seatmelon_pcapng.specs.Classics.{Stays, failures_of, left_in, remarks_left, source_of}
use Rattle.seatmelon_pcapng.proofs.classic.Classic.prepare.Given as goal

-- what it will give stays the same, and what is told beside all packets; what its source gave is noted
abbrev pub invariant-loop : goal.invariant-loop
invariant-loop g l = record {
  left : Keeps (left_in g.S.Source.remaining l.fn.self) (left_in g.S.Source.remaining l.self);
  failures : failures_of l.self ≡ failures_of l.fn.self;
  remarks : Stays (remarks_left g.S.Source.remaining l.fn.self) (remarks_left g.S.Source.remaining l.self);
  passed : PassesOn g.S.Source.remaining g.S.Source.notes (source_of l.fn.self) (source_of l.self);
}
