-- The ways that are known, by their hosts.
use Rattle.std.specs.Prelude.{List}
use Rattle.seatmelon_audit.specs.declared.ways.Way.{Way}
use Rattle.seatmelon_audit.specs.declared.ways.Ways.{Ways}

abbrev pub sorted_in : Ways → List Way
sorted_in ways = ways.sorted.items
