use Rattle.std.proofs.Common.{◌≡◌, drop}
use Rattle.rasta_check.specs.Model.Taken.{position_with}
use Rattle.trials_plain.specs.Plain.{pdus}
use Rattle.trials_plain.proofs.Plainly.{moved_by}
use Rattle.trials_plain.proofs.taken.position_with.Given as goal

-- the position is that among the PDUs that are left
abbrev pub invariant-loop-position : goal.invariant-loop-position
invariant-loop-position l = moved_by l.position (position_with (pdus (drop l.position l.own)) l.sn) ≡ position_with (pdus l.own) l.sn
