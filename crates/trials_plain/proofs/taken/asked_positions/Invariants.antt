use Rattle.std.proofs.Common.{◌≡◌, ◌++◌, drop}
use Rattle.rasta_check.specs.Model.Taken.{asked_positions, pdus_of}
use Rattle.trials_plain.specs.Plain.{pdus, copies_of}
use Rattle.trials_plain.proofs.taken.asked_positions.Given as goal

-- the asks so far, and those of the PDUs that are left
abbrev pub invariant-loop-copy : goal.invariant-loop-copy
invariant-loop-copy l = l.asks.items ++ asked_positions (pdus l.own) (pdus_of (copies_of (drop l.copy-index l.peer))) ≡ asked_positions (pdus l.own) (pdus_of (copies_of l.peer))
