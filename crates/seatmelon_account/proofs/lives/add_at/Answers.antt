use Rattle.std.proofs.Common.{slice_get}
use Rattle.std.proofs.lemmas.Option.{slice_get_past}
use Rattle.seatmelon_account.proofs.Signs.{not_seen}
use Rattle.seatmelon_account.proofs.lives.add_at.Goals as goal

pub returns-in_default : goal.returns-in_default
returns-in_default c signs h =
    not_seen signs (slice_get c.args.packets.now c.args.place) c.args.search.now (slice_get_past c.args.packets.now c.args.place c.in_default.ensures.lookup.3) h
