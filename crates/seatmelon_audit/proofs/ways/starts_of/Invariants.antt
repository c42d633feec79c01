use Rattle.std.proofs.Common.{◌≡◌, length}
use Rattle.seatmelon_audit.specs.Ways.{AreStarts, AreWithin}
use Rattle.seatmelon_audit.proofs.ways.starts_of.Given as goal

-- the buckets up to there begin where it was noted
abbrev pub invariant-loop-bucket : goal.invariant-loop-bucket
invariant-loop-bucket l = record {
  size : length l.starts.items ≡ l.bucket-counter;
  order : AreStarts l.buckets l.sorted l.starts.items;
  within : AreWithin l.sorted l.starts.items;
}
