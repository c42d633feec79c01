use Rattle.std.proofs.Common.{take}
use Rattle.seatmelon_reading.specs.Silences.{IsSearch}
use Rattle.seatmelon_account.specs.Lives.{sightings_of}
use Rattle.seatmelon_account.proofs.lives.search_of.Given as goal

-- the first copies up to there were taken in
abbrev pub invariant-loop-position : goal.invariant-loop-position
invariant-loop-position l = IsSearch (sightings_of l.packets (take l.position l.copies)) l.search
