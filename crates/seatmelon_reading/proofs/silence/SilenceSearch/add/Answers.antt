use Rattle.std.proofs.Common.{refl}
use Rattle.seatmelon_reading.proofs.Silences.{search_next}
use Rattle.seatmelon_reading.proofs.silence.SilenceSearch.add.Goals as goal

pub returns : goal.returns
returns c sent h = search_next sent c.args.packet c.args.self.now _ h c.longest_with-self.ensures refl
