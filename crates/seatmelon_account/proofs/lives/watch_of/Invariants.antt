use Rattle.std.proofs.Common.{take}
use Rattle.seatmelon_account.specs.Lives.{IsWatch, lives_crossed}
use Rattle.seatmelon_account.proofs.Signs.{lives_behind}
use Rattle.seatmelon_account.proofs.lives.watch_of.Given as goal

-- the packets up to there were taken in
abbrev pub invariant-loop-taped : goal.invariant-loop-taped
invariant-loop-taped l =
    IsWatch
    (lives_behind l.reading.store.params l.reading.notes.packets.items (lives_crossed l.reading.notes.packets.items l.reading.store)
    (take l.taped-index l.reading.unjudged.packets.items)) l.watch
