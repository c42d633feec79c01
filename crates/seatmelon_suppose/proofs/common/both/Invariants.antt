use Rattle.std.proofs.Common.{◌≡◌, ℕ, length, Some}
use Rattle.seatmelon_suppose.specs.Common.{IsUnder, proof_at}
use Rattle.seatmelon_suppose.proofs.Agreement.{ProvedIn}
use Rattle.seatmelon_suppose.proofs.common.both.Given as goal

-- the messages up to there are the same
abbrev pub invariant-loop-place : goal.invariant-loop-place
invariant-loop-place l = record {
  count : length l.both.items ≡ l.place;
  first : IsUnder l.both.items l.first;
  other : IsUnder l.both.items l.other;
  proved : (i proof : ℕ) → proof_at i l.both.items ≡ Some proof → ProvedIn l.first l.other i proof;
}
