use Rattle.std.proofs.Common.{◌≡◌, ◌<◌, ℕ, Some}
use Rattle.std.specs.Prelude.{slice_get}
use Rattle.rasta_pdu.specs.Params.{Parameters}
use Rattle.seatmelon_audit.specs.Ways.{KnowsChannels}
use Rattle.seatmelon_audit.proofs.ways.ways_of.Given as goal

-- the ways of the connections up to there are known
abbrev pub invariant-loop-line : goal.invariant-loop-line
invariant-loop-line l = (line : ℕ) (p : Parameters) → line < l.line → slice_get l.params line ≡ Some p → KnowsChannels l.ways.items line p.channels
