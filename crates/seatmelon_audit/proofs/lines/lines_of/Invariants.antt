use Rattle.std.proofs.Common.{◌≡◌, [], take}
use Rattle.seatmelon_audit.specs.Lines.{AreLines, params_of}
use Rattle.seatmelon_audit.proofs.lines.lines_of.Given as goal

-- the connections up to there are those of their parameters
abbrev pub invariant-loop-recorded : goal.invariant-loop-recorded
invariant-loop-recorded l = record {
  lines : AreLines [] l.lines.items;
  params : params_of l.lines.items ≡ take l.recorded-index l.params;
}
