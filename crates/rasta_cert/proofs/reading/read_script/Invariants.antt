use Rattle.std.proofs.Common.{◌≡◌, ◌++◌, ◌≤◌, length}
use Rattle.rasta_cert.specs.Certificate.{AreEntries, entries_text}
use Rattle.rasta_cert.proofs.reading.read_script.Given as goal

-- the text is the entries so far and what follows them
abbrev pub invariant-loop-entry : goal.invariant-loop-entry
invariant-loop-entry l = record {
  text_is : l.text ≡ entries_text l.entries.items ++ l.rest;
  valid : AreEntries l.entries.items;
  few : length l.entries.items ≤ l.most;
}

abbrev pub decreases-loop-entry : goal.decreases-loop-entry
decreases-loop-entry l = length l.rest
