use Rattle.std.proofs.Common.{◌≡◌, ◌≤◌, ◌-◌, length, take}
use Rattle.std.specs.Io.KnownBytes.{Consumes}
use Rattle.seatmelon_cooked.proofs.filling.fill.Given as goal

-- what the buffer begins with is what the source lost
abbrev pub invariant-loop-filled : goal.invariant-loop-filled
invariant-loop-filled g l = record {
  within : l.filled ≤ l.len;
  consumed : Consumes (g.S.Source.remaining l.fn.source) (g.S.Source.remaining l.source) (take l.filled l.buf);
  size : length l.buf ≡ length l.fn.buf;
}

abbrev pub decreases-loop-filled : goal.decreases-loop-filled
decreases-loop-filled g l = l.len - l.filled
