use Rattle.std.proofs.Common.{◌≡◌, drop, map, max}
use Rattle.std.specs.Prelude.{fold}
use Rattle.rasta_check.specs.Model.Taken.{units_shown, units_taken, pdus_of}
use Rattle.trials_plain.specs.Plain.{pdus, copies_of}
use Rattle.trials_plain.proofs.taken.units_taken.Given as goal

-- the most so far, and what is shown by the PDUs that are left
abbrev pub invariant-loop-copy : goal.invariant-loop-copy
invariant-loop-copy l =
    fold max l.most (map (units_shown (pdus l.own) (pdus_of (copies_of l.peer))) (pdus_of (copies_of (drop l.copy-index l.peer)))) ≡ units_taken (pdus l.own) (pdus_of (copies_of l.peer))
