use Rattle.std.proofs.Common.{◌≡◌, map, take}
use Rattle.rasta_check.specs.Verdict.Listed.{listed_of}
use Rattle.seatmelon_suppose.specs.Filling.{captured_messages}
use Rattle.seatmelon_suppose.proofs.filling.captured_among.Given as goal

-- the messages up to there were taken in
abbrev pub invariant-loop-one : goal.invariant-loop-one
invariant-loop-one l = l.listed.items ≡ captured_messages l.origins (map listed_of (take l.one-index l.taken))
