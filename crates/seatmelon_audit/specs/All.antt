-- All connections, and which of them record which hosts.
use Rattle.std.specs.Prelude.{List}
use Rattle.seatmelon_audit.specs.Lines.{params_of}
use Rattle.seatmelon_audit.specs.Sorting.{sorted_in}
use Rattle.seatmelon_audit.specs.Ways.{KnowsAll}
use Rattle.seatmelon_audit.specs.declared.line.Line.{Line}
use Rattle.seatmelon_audit.specs.declared.lines.Lines.{Lines}

abbrev pub lines_in : Lines → List Line
lines_in all = all.lines.items

-- the ways of each connection are known
abbrev pub IsKnown : Lines → Type 0
IsKnown all = KnowsAll (sorted_in all.ways) (params_of (lines_in all))
