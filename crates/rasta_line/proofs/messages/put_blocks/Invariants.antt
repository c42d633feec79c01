use Rattle.std.proofs.Common.{length, ◌+◌, ◌-◌, ◌≡◌, ◌*◌, ◌≤◌, take}
use Rattle.hex.specs.Hex.{encode_lower}
use Rattle.rasta_line.proofs.messages.put_blocks.Given as goal

-- the blocks before this place have their digits
abbrev pub invariant-loop-at : goal.invariant-loop-at
invariant-loop-at l = (l.at ≤ length l.piece) × (take (2 * l.at) l.room ≡ encode_lower (take l.at l.piece))

abbrev pub decreases-loop-at : goal.decreases-loop-at
decreases-loop-at l = length l.piece + 1 - l.at
