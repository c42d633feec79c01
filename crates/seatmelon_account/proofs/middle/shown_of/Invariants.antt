use Rattle.std.proofs.Common.{◌++◌, map, take}
use Rattle.rasta_check.specs.Middle.Seen.{IsSeen}
use Rattle.seatmelon_reading.specs.Tapes.{taped_as}
use Rattle.seatmelon_account.specs.Middle.{packet_of_numbered}
use Rattle.seatmelon_account.proofs.middle.shown_of.Given as goal

-- the packets up to there were taken in
abbrev pub invariant-loop-taped : goal.invariant-loop-taped
invariant-loop-taped l =
    IsSeen l.reading.store.params
    (l.reading.store.packets ++ map packet_of_numbered (map taped_as (take l.taped-index l.reading.unjudged.packets.items))) l.shown
