use Rattle.std.proofs.Common.{◌*◌}
use Rattle.rasta_sha256.specs.Lanes.{HoldsWords}
use Rattle.rasta_sha256.proofs.schedules.schedules.Given as goal

abbrev pub invariant-load : goal.invariant-load
invariant-load l = HoldsWords l.group l.words l.t

abbrev pub invariant-extend : goal.invariant-extend
invariant-extend l = HoldsWords l.group l.words (8 * l.turn)
