use Rattle.std.proofs.Common.{All, Option, ℕ}
use Rattle.seatmelon_connections.specs.Quiet.{StandsFrom}
use Rattle.seatmelon_connections.proofs.quiet.note_all.Given as goal

-- points stand after the records where they stood
abbrev pub invariant-loop-candidate : goal.invariant-loop-candidate
invariant-loop-candidate l = (from : Option ℕ) → All (StandsFrom from) l.fn.candidates → All (StandsFrom from) l.candidates
