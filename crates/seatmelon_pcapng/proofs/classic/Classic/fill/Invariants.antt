use Rattle.std.proofs.Common.{◌≡◌, ◌-◌, ◌≤◌, length, take}
use Rattle.std.specs.Io.KnownBytes.{Consumes}
use Rattle.seatmelon_pcapng.specs.Classics.{CanFill, Stays, failures_of, left_in, remarks_left, source_of}
use Rattle.seatmelon_pcapng.proofs.classic.Classic.fill.Given as goal

-- what the buffer begins with was given; nothing is read
abbrev pub invariant-loop-n : goal.invariant-loop-n
invariant-loop-n g l = record {
  ready : CanFill l.self;
  within : l.filled ≤ length l.buf;
  size : length l.buf ≡ length l.fn.buf;
  left : Consumes (left_in g.S.Source.remaining l.fn.self) (left_in g.S.Source.remaining l.self) (take l.filled l.buf);
  remarks : Stays (remarks_left g.S.Source.remaining l.fn.self) (remarks_left g.S.Source.remaining l.self);
  source : source_of l.self ≡ source_of l.fn.self;
  failures : failures_of l.self ≡ failures_of l.fn.self;
}

abbrev pub decreases-loop-n : goal.decreases-loop-n
decreases-loop-n g l = length l.buf - l.filled
