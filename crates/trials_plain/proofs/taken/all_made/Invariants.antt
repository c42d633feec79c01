use Rattle.std.proofs.Common.{◌≡◌, ◌++◌, drop}
use Rattle.rasta_check.specs.Model.Taken.{all_made, pdus_of}
use Rattle.trials_plain.specs.Plain.{pdus, copies_of}
use Rattle.trials_plain.proofs.taken.all_made.Given as goal

-- the PDUs so far, and those that are left
abbrev pub invariant-loop-copy : goal.invariant-loop-copy
invariant-loop-copy l = pdus l.made.items ++ pdus_of (copies_of (drop l.copy-index l.sent)) ≡ all_made l.params l.fn.side (copies_of l.sent)
