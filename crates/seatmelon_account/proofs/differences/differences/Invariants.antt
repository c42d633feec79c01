use Rattle.std.proofs.Common.{◌≡◌, take}
use Rattle.seatmelon_account.specs.Differences.{differing}
use Rattle.seatmelon_account.proofs.differences.differences.Given as goal

-- the first of those in the bytes so far
abbrev pub invariant-loop-at : goal.invariant-loop-at
invariant-loop-at l = l.differences.items ≡ take 16 (differing 0 (take l.at l.datagram) (take l.at l.first))
