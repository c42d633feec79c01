use Rattle.std.proofs.Common.{◌≡◌, map, take}
use Rattle.seatmelon_reading.specs.Tapes.{taped_as}
use Rattle.seatmelon_account.specs.Hypotheses.{AreListed, AreProved, captured_from, numbered_of}
use Rattle.seatmelon_account.proofs.hypothesis.told.Given as goal

-- the messages up to there were told
abbrev pub invariant-loop-number : goal.invariant-loop-number
invariant-loop-number l =
    (map numbered_of l.told.items ≡ captured_from l.params (map taped_as l.packets) 0 (take l.number l.sent-items))
    × AreProved l.messages.taken.items l.told.items
    × AreListed l.messages.taken.items l.told.items
