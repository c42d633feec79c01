use Rattle.std.proofs.Common.{◌≡◌, ◌++◌, drop}
use Rattle.rasta_check.specs.Model.Taken.{units_from}
use Rattle.trials_plain.specs.Plain.{pdus, copies_of, units_of}
use Rattle.trials_plain.proofs.taken.units_from.Given as goal

-- the units so far, and those of the data PDUs that are left
abbrev pub invariant-loop-unit : goal.invariant-loop-unit
invariant-loop-unit l =
    units_of l.taken.items ++ units_from (pdus l.own) (copies_of l.peer) l.unit (copies_of (drop l.unit l.data_pdus)) ≡ units_from (pdus l.own) (copies_of l.peer) 0 (copies_of l.data_pdus)
