use Rattle.std.proofs.Common.{[], refl}
use Rattle.rasta_check.proofs.Capture.Readings.{nothing_is}
use Rattle.rasta_check.proofs.laws.empty_lists_are_sent.Goals as goal

pub returns : goal.returns
returns c p h = ([], refl, nothing_is p h)
