use Rattle.std.proofs.Common.{◌≡◌, drop}
use Rattle.rasta_check.specs.Model.Taken.{proof_place, pdus_of}
use Rattle.trials_plain.specs.Plain.{pdus, copies_of}
use Rattle.trials_plain.proofs.taken.proof_place.Given as goal

-- the place is that of the PDUs that are left
abbrev pub invariant-loop-copy : goal.invariant-loop-copy
invariant-loop-copy l =
    proof_place (pdus l.own) (pdus_of (copies_of l.peer)) l.unit (copies_of (drop l.copy-index l.peer)) ≡ proof_place (pdus l.own) (pdus_of (copies_of l.peer)) l.unit (copies_of l.peer)
