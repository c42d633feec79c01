use Rattle.std.proofs.Common.{◌≡◌, length}
use Rattle.std.specs.Io.KnownBytes.{Keeps}
use Rattle.seatmelon_pcapng.specs.Classics.{Stays, failures_of, left_in, remarks_left, source_of}
use Rattle.seatmelon_pcapng.specs.Memory.{bytes_of}
use Rattle.seatmelon_pcapng.proofs.classic.Classic.pass_blocks.Given as goal

-- what it will give stays the same, and what is told beside all packets; nothing is read
abbrev pub invariant-loop-front : goal.invariant-loop-front
invariant-loop-front g l = record {
  left : Keeps (left_in g.S.Source.remaining l.fn.self) (left_in g.S.Source.remaining l.self);
  remarks : Stays (remarks_left g.S.Source.remaining l.fn.self) (remarks_left g.S.Source.remaining l.self);
  source : source_of l.self ≡ source_of l.fn.self;
  progress : l.self.progress ≡ l.fn.self.progress;
  failures : failures_of l.self ≡ failures_of l.fn.self;
}

abbrev pub decreases-loop-front : goal.decreases-loop-front
decreases-loop-front g l = length (bytes_of l.self.blocks)
