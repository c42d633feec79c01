use Rattle.std.proofs.Common.{refl}
use Rattle.seatmelon_reading.proofs.Noted.{counted}
use Rattle.seatmelon_reading.proofs.notes.count.Goals as goal

pub returns-then-place-lt4 : goal.returns-then-place-lt4
returns-then-place-lt4 c seen s is few crossed sent =
    counted seen s c.args.channels.now c.place_of-place.result _ (record { client = 0; server = 0 }) c.with.result c.args.channel c.args.sender is few crossed sent c.if-place-lt4.true
    (c.place_of-place.ensures.within c.if-place-lt4.true) refl c.with.ensures
