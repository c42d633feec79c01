use Rattle.std.proofs.Common.{◌≡◌, ◌++◌, drop}
use Rattle.rasta_check.specs.Model.Taken.{data_copies}
use Rattle.trials_plain.specs.Plain.{copies_of}
use Rattle.trials_plain.proofs.taken.data_copies.Given as goal

-- the data PDUs so far, and those that are left
abbrev pub invariant-loop-copy : goal.invariant-loop-copy
invariant-loop-copy l = copies_of l.copies.items ++ data_copies (copies_of (drop l.copy-index l.sent)) ≡ data_copies (copies_of l.sent)
