use Rattle.std.proofs.Common.{◌≡◌, take}
use Rattle.seatmelon_audit.specs.Lines.{AllBetween, HaveTaken, TellsHeld, params_of}
use Rattle.seatmelon_audit.specs.Ways.{ways_between}
use Rattle.seatmelon_audit.proofs.lines.step_all.Given as goal

-- the connections of the ways up to there took the record in
abbrev pub invariant-loop-way : goal.invariant-loop-way
invariant-loop-way l = record {
  between : AllBetween l.fn.lines.items l.lines.items (l.record.number, l.record.bytes.now) l.time;
  taken : HaveTaken (ways_between l.hosts (take l.way-index l.ways)) l.record.number l.lines.items;
  told : TellsHeld l.held l.fn.lines.items l.lines.items (l.record.number, l.record.bytes.now);
  kept : params_of l.lines.items ≡ params_of l.fn.lines.items;
}
